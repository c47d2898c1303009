-- Laws of counts: pieces after pieces are counted one after the other.
use Rattle.std.proofs.Common.{◌≡◌, ℕ, zero, suc, ◌+◌, List, [], ◌∷◌, ◌++◌, Option, Some, None, append-nil, refl, sym, ap, subst, ◌∙◌, arith}
use Rattle.std.specs.List.{AllZip, count_by, sum_by}
use Rattle.std.specs.Option.{option_to_list}
use Rattle.std.proofs.lemmas.List.Sums.{sum_by-append}
use Rattle.std.proofs.lemmas.Grind.{flat_map-append}
use Rattle.std.specs.Prelude.{Bool, cond, max}
use Rattle.feed_types.specs.ListLaws.{zip_both}
use Rattle.packet_capture.specs.Captures.{PieceContent, frames_in, frames_of, list_of}
use Rattle.packet_capture.specs.Frames.{FrameContent}
use Rattle.run_settings.specs.declared.captured_line.CapturedLine.{CapturedLine}
use Rattle.line_captures.specs.declared.frame_counts.FrameCounts.{FrameCounts}
use Rattle.line_captures.specs.declared.progress.Progress.{Progress}
use Rattle.line_captures.specs.Counts.{FrameFate, IsFate, CountsFrame, CountsPieces, counts_after, falls_after, latest_after, piece_after, timed_after, second_after, second_of, times_in, times_of, is_without, is_no_ip, is_no_udp, is_fragment, is_cut, is_malformed, is_unreadable, goes_elsewhere, goes_to_line}
use Rattle.feed_types.specs.FullCounts.{count_after}
use Rattle.line_captures.specs.declared.drop_counts.DropCounts.{DropCounts}
use Rattle.line_captures.specs.DropCounts.{drops_after, drops_of}

-- a count that is count_after twice
raised_twice : (count m n : ℕ) → count_after (count_after count m) n ≡ count_after count (m + n)
raised_twice count zero zero = refl
raised_twice count zero (suc n) = let same : suc n ≡ zero + suc n = omega arith
    in ap (count_after count) same
raised_twice count (suc m) zero = let same : suc m ≡ suc m + zero = omega arith
    in ap (count_after count) same
raised_twice count (suc m) (suc n) =
    let sum : suc m + suc n ≡ suc (m + suc n) = omega arith in
    let one : count_after (count_after count (suc m)) (suc n) ≡ count_after count
    (suc (m + suc n)) = omega arith in
    one ∙ ap (count_after count) (sym sum)

raised_both : (count m n : ℕ) (all : ℕ) → all ≡ m + n
    → count_after (count_after count m) n ≡ count_after count all
raised_both count m n all e = raised_twice count m n ∙ ap (count_after count) (sym e)

counted_both : (kind : FrameFate → Bool) (count : ℕ) (xs ys : List FrameFate)
    → count_after (count_after count (count_by kind xs)) (count_by kind ys)
    ≡ count_after count (count_by kind (xs ++ ys))
counted_both kind count xs ys =
    raised_both count (count_by kind xs) (count_by kind ys) (count_by kind (xs ++ ys))
    (sum_by-append (λ x. cond (kind x) 1 0) xs ys)

counts_twice : (counts : FrameCounts) (xs ys : List FrameFate) (m n : ℕ)
    → counts_after (counts_after counts xs m) ys n ≡ counts_after counts (xs ++ ys) (m + n)
counts_twice counts xs ys m n =
    let a = counted_both goes_to_line counts.to_lines xs ys in
    let b = counted_both goes_elsewhere counts.elsewhere xs ys in
    let c = counted_both (is_without is_no_ip) counts.no_ip xs ys in
    let d = counted_both (is_without is_no_udp) counts.no_udp xs ys in
    let e = counted_both (is_without is_fragment) counts.fragments xs ys in
    let f = counted_both (is_without is_cut) counts.cut xs ys in
    let g = counted_both (is_without is_malformed) counts.malformed xs ys in
    let h = counted_both (is_without is_unreadable) counts.not_read xs ys in
    let k = raised_twice counts.disordered m n in
    λ i. record {
      to_lines = a i;
      elsewhere = b i;
      no_ip = c i;
      no_udp = d i;
      fragments = e i;
      cut = f i;
      malformed = g i;
      not_read = h i;
      disordered = k i;
    }

second_both : (found : Option ℕ) (position : ℕ) (ps qs : List PieceContent)
    → second_of found position (ps ++ qs)
    ≡ second_of (second_of found position ps)
    (count_after position (sum_by (λ piece. piece.len) ps)) qs
second_both found position [] qs = refl
second_both found position (p ∷ ps) qs =
    let len : PieceContent → ℕ = λ piece. piece.len in
    let later : Option ℕ = second_after found position p.frame in
    let alone : 0 + p.len ≡ p.len = omega arith in
    let sum : sum_by len (p ∷ ps) ≡ p.len + sum_by len ps =
    sum_by-append len (p ∷ []) ps ∙ ap (λ (n : ℕ). n + sum_by len ps) alone in
    second_both later (count_after position p.len) ps qs
    ∙ ap (λ (n : ℕ). second_of (second_of later (count_after position p.len) ps) n qs)
    (raised_both position p.len (sum_by len ps) (sum_by len (p ∷ ps)) sum)

drops_both : (d : DropCounts) (ps qs : List PieceContent)
    → drops_of d (ps ++ qs) ≡ drops_of (drops_of d ps) qs
drops_both d [] qs = refl
drops_both d (p ∷ ps) qs = drops_both (drops_after d p.dropped) ps qs

falls_both : (latest : ℕ) (xs ys : List ℕ)
    → falls_after latest (xs ++ ys)
    ≡ falls_after latest xs + falls_after (latest_after latest xs) ys
falls_both latest [] ys = omega arith
falls_both latest (x ∷ xs) ys = let h = falls_both (max latest x) xs ys in omega (arith, h)

latest_both : (latest : ℕ) (xs ys : List ℕ)
    → latest_after latest (xs ++ ys) ≡ latest_after (latest_after latest xs) ys
latest_both latest [] ys = refl
latest_both latest (x ∷ xs) ys = latest_both (max latest x) xs ys

times_both : (fs gs : List FrameContent) → times_of (fs ++ gs) ≡ times_of fs ++ times_of gs
times_both fs gs = flat_map-append times_in fs gs

pub counts_none : (lines : List CapturedLine) (progress : Progress)
    → CountsPieces lines progress [] progress
counts_none lines progress = record {
  fates = [];
  are = tt;
  position = refl;
  second_start = refl;
  latest_time = refl;
  counts = refl;
  drops = refl;
}

-- the falls of pieces after pieces
falls_of : {lines : List CapturedLine} (a b : Progress) (ps qs : List PieceContent)
    → CountsPieces lines a ps b
    → times_of (frames_of (ps ++ qs)) ≡ times_of (frames_of ps) ++ times_of (frames_of qs)
    → falls_after a.latest_time (times_of (frames_of ps)) + falls_after b.latest_time
    (times_of (frames_of qs))
    ≡ falls_after a.latest_time (times_of (frames_of (ps ++ qs)))
falls_of a b ps qs x times =
    ap (λ n. falls_after a.latest_time (times_of (frames_of ps)) + falls_after n
    (times_of (frames_of qs))) x.latest_time
    ∙ sym (falls_both a.latest_time (times_of (frames_of ps)) (times_of (frames_of qs)))
    ∙ ap (falls_after a.latest_time) (sym times)

pub counts_then : (lines : List CapturedLine) (a b c : Progress) (ps qs : List PieceContent)
    → CountsPieces lines a ps b → CountsPieces lines b qs c → CountsPieces lines a (ps ++ qs) c
counts_then lines a b c ps qs x y =
    let frames : frames_of (ps ++ qs) ≡ frames_of ps
    ++ frames_of qs = flat_map-append frames_in ps qs in
    let times : times_of (frames_of (ps ++ qs)) ≡ times_of (frames_of ps)
    ++ times_of (frames_of qs) =
    ap times_of frames ∙ times_both (frames_of ps) (frames_of qs) in
    let Z : List FrameContent → Type 0 = λ fs. AllZip (IsFate lines) fs (x.fates ++ y.fates) in
    record {
      fates = x.fates ++ y.fates;
      are = subst Z (sym frames) (zip_both (IsFate lines) (frames_of ps) (frames_of qs)
          x.fates y.fates x.are y.are);
      position = y.position ∙ ap (λ n. count_after n (sum_by (λ piece. piece.len) qs)) x.position
          ∙ raised_both a.position (sum_by (λ piece. piece.len) ps) (sum_by (λ piece. piece.len) qs)
          (sum_by (λ piece. piece.len) (ps ++ qs)) (sum_by-append (λ piece. piece.len) ps qs);
      second_start = y.second_start
          ∙ ap (λ n. second_of n b.position qs) x.second_start
          ∙ ap (λ n. second_of (second_of a.second_start a.position ps) n qs) x.position
          ∙ sym (second_both a.second_start a.position ps qs);
      latest_time = y.latest_time ∙ ap (λ n. latest_after n (times_of (frames_of qs))) x.latest_time
          ∙ sym (latest_both a.latest_time (times_of (frames_of ps)) (times_of (frames_of qs)))
          ∙ ap (latest_after a.latest_time) (sym times);
      counts = y.counts
          ∙ ap (λ (p : FrameCounts). counts_after p y.fates
          (falls_after b.latest_time (times_of (frames_of qs)))) x.counts
          ∙ counts_twice a.counts x.fates y.fates
          (falls_after a.latest_time (times_of (frames_of ps)))
          (falls_after b.latest_time (times_of (frames_of qs)))
          ∙ ap (λ n. counts_after a.counts (x.fates ++ y.fates) n) (falls_of a b ps qs x times);
      drops = y.drops ∙ ap (λ d. drops_of d qs) x.drops ∙ sym (drops_both a.drops ps qs);
    }

-- ---- one piece

-- what one piece counts, with a frame
pub counts_frame : (lines : List CapturedLine) (before pieced timed after : Progress)
    (p : PieceContent) (f : FrameContent) → pieced ≡ piece_after before p
    → timed ≡ timed_after pieced f.time → after ≡ record timed { counts = after.counts }
    → CountsFrame lines f timed.counts after.counts → p.frame ≡ Some f
    → CountsPieces lines before (p ∷ []) after
counts_frame lines before pieced timed after p f piece time last counts framed =
    let frames : frames_of (p ∷ []) ≡ f
    ∷ [] = ap (λ (o : Option FrameContent). list_of o ++ []) framed in
    let times : times_of (frames_of (p ∷ [])) ≡ option_to_list f.time = ap times_of frames
    ∙ append-nil (option_to_list f.time) in
    let Z : List FrameContent → Type 0 = λ fs. AllZip (IsFate lines) fs (counts.fate ∷ []) in
    let sum : p.len ≡ sum_by (λ (piece : PieceContent). piece.len) (p ∷ []) = omega arith in
    let start : timed ≡ timed_after (piece_after before p) f.time = time
    ∙ ap (λ (x : Progress). timed_after x f.time) piece in
    record {
      fates = counts.fate ∷ [];
      are = subst Z (sym frames) (counts.is, tt);
      position = ap (λ (x : Progress). x.position) last ∙ ap (λ (x : Progress). x.position) start
          ∙ ap (count_after before.position) sum;
      second_start = ap (λ (x : Progress). x.second_start) last
          ∙ ap (λ (x : Progress). x.second_start) start;
      latest_time = ap (λ (x : Progress). x.latest_time) last
          ∙ ap (λ (x : Progress). x.latest_time) start
          ∙ ap (latest_after before.latest_time) (sym times);
      counts = counts.after_is
          ∙ ap (λ (x : Progress). counts_after x.counts (counts.fate ∷ []) 0) start
          ∙ ap (λ n. counts_after before.counts (counts.fate ∷ [])
          (falls_after before.latest_time n))
          (sym times);
      drops = ap (λ (x : Progress). x.drops) last ∙ ap (λ (x : Progress). x.drops) start;
    }

-- and without one
pub counts_silent : (lines : List CapturedLine) (before after : Progress) (p : PieceContent)
    → after ≡ piece_after before p → p.frame ≡ None → CountsPieces lines before (p ∷ []) after
counts_silent lines before after p piece unframed =
    let frames : frames_of (p ∷ []) ≡ [] = ap (λ (o : Option FrameContent). list_of o ++ [])
    unframed in
    let times : times_of (frames_of (p ∷ [])) ≡ [] = ap times_of frames in
    let Z : List FrameContent → Type 0 = λ fs. AllZip (IsFate lines) fs [] in
    let sum : p.len ≡ sum_by (λ (piece : PieceContent). piece.len) (p ∷ []) = omega arith in
    record {
      fates = [];
      are = subst Z (sym frames) tt;
      position = ap (λ (x : Progress). x.position) piece ∙ ap (count_after before.position) sum;
      second_start = ap (λ (x : Progress). x.second_start) piece;
      latest_time = ap (λ (x : Progress). x.latest_time) piece
          ∙ ap (latest_after before.latest_time) (sym times);
      counts = ap (λ (x : Progress). x.counts) piece
          ∙ ap (λ n. counts_after before.counts [] (falls_after before.latest_time n)) (sym times);
      drops = ap (λ (x : Progress). x.drops) piece;
    }
