-- Each frame is of one kind.
use Rattle.std.proofs.Common.{◌≡◌, ℕ, zero, suc, ◌+◌, ◌^◌, ◌<◌, List, [], ◌∷◌, length, refl, sym, ap, ◌∙◌, arith}
use Rattle.std.specs.Prelude.{Bool, cond}
use Rattle.std.proofs.lemmas.List.Sums.{sum_by-append}
use Rattle.std.specs.List.{AllZip, count_by}
use Rattle.packet_capture.specs.declared.fault.FrameFault.TheVariants.{UnknownLink, NotIp, ShortFrame, BadIpHeader, NotUdp, Fragment, ExtensionHeader, BadUdpLength}
use Rattle.packet_capture.specs.Captures.{PieceContent, frames_of}
use Rattle.run_settings.specs.declared.captured_line.CapturedLine.{CapturedLine}
use Rattle.line_captures.specs.declared.progress.Progress.{Progress}
use Rattle.line_captures.specs.Counts.{FrameFate, to_line, elsewhere, no_datagram, IsFate, CountsPieces, new_progress, counts_after, total_of, falls_after, times_of, is_without, is_no_ip, is_no_udp, is_fragment, is_cut, is_malformed, is_unreadable, goes_elsewhere, goes_to_line}
use Rattle.feed_types.specs.FullCounts.{count_after}

same_length : {A B : Type 0} (R : A → B → Type 0) (xs : List A) (ys : List B) → AllZip R xs ys
    → length xs ≡ length ys
same_length R [] [] all = refl
same_length R [] (y ∷ ys) all = absurd all
same_length R (x ∷ xs) [] all = absurd all
same_length R (x ∷ xs) (y ∷ ys) all = ap suc (same_length R xs ys all.1)

-- the counts of the fates by their kinds
all_kinds : List FrameFate → ℕ
all_kinds fates =
    count_by goes_to_line fates + count_by goes_elsewhere fates
    + (count_by (is_without is_no_ip) fates + count_by (is_without is_no_udp) fates
    + count_by (is_without is_fragment) fates)
    + (count_by (is_without is_cut) fates + count_by (is_without is_malformed) fates
    + count_by (is_without is_unreadable) fates)

no_kind : all_kinds [] ≡ 0
unfolding all_kinds
no_kind = refl

one_kind : (fate : FrameFate) → all_kinds (fate ∷ []) ≡ 1
unfolding all_kinds
one_kind to_line = refl
one_kind elsewhere = refl
one_kind (no_datagram UnknownLink) = refl
one_kind (no_datagram NotIp) = refl
one_kind (no_datagram ShortFrame) = refl
one_kind (no_datagram BadIpHeader) = refl
one_kind (no_datagram NotUdp) = refl
one_kind (no_datagram Fragment) = refl
one_kind (no_datagram ExtensionHeader) = refl
one_kind (no_datagram BadUdpLength) = refl

count_more : (kind : FrameFate → Bool) (fate : FrameFate) (fates : List FrameFate)
    → count_by kind (fate ∷ fates) ≡ count_by kind (fate ∷ []) + count_by kind fates
count_more kind fate fates = sum_by-append (λ x. cond (kind x) 1 0) (fate ∷ []) fates

kinds_more : (fate : FrameFate) (fates : List FrameFate)
    → all_kinds (fate ∷ fates) ≡ all_kinds (fate ∷ []) + all_kinds fates
unfolding all_kinds
kinds_more fate fates =
    let a = count_more goes_to_line fate fates in
    let b = count_more goes_elsewhere fate fates in
    let c = count_more (is_without is_no_ip) fate fates in
    let d = count_more (is_without is_no_udp) fate fates in
    let e = count_more (is_without is_fragment) fate fates in
    let f = count_more (is_without is_cut) fate fates in
    let g = count_more (is_without is_malformed) fate fates in
    let h = count_more (is_without is_unreadable) fate fates in
    omega (arith, a, b, c, d, e, f, g, h)

add_up : (fates : List FrameFate) → all_kinds fates ≡ length fates
add_up [] = no_kind
add_up (fate ∷ fates) =
    let one = one_kind fate in
    let more = kinds_more fate fates in
    let others = add_up fates in
    omega (arith, one, more, others)

-- a count from 0 on
counted : (n : ℕ) → n < 2 ^ 64 → count_after 0 n ≡ n
counted zero few = refl
counted (suc n) few = omega arith

total_is : (fates : List FrameFate) (falls : ℕ) → length fates < 2 ^ 64
    → total_of (counts_after new_progress.counts fates falls) ≡ length fates
unfolding all_kinds
total_is fates falls few =
    let sum = add_up fates in
    let a = counted (count_by goes_to_line fates) (omega (arith, sum)) in
    let b = counted (count_by goes_elsewhere fates) (omega (arith, sum)) in
    let c = counted (count_by (is_without is_no_ip) fates) (omega (arith, sum)) in
    let d = counted (count_by (is_without is_no_udp) fates) (omega (arith, sum)) in
    let e = counted (count_by (is_without is_fragment) fates) (omega (arith, sum)) in
    let f = counted (count_by (is_without is_cut) fates) (omega (arith, sum)) in
    let g = counted (count_by (is_without is_malformed) fates) (omega (arith, sum)) in
    let h = counted (count_by (is_without is_unreadable) fates) (omega (arith, sum)) in
    omega (arith, sum, a, b, c, d, e, f, g, h)

pub each_counted : (lines : List CapturedLine) (pieces : List PieceContent) (after : Progress)
    → CountsPieces lines new_progress pieces after → length (frames_of pieces) < 2 ^ 64
    → total_of after.counts ≡ length (frames_of pieces)
each_counted lines pieces after counts few =
    let same = same_length (IsFate lines) (frames_of pieces) counts.fates counts.are in
    let falls : ℕ = falls_after 0 (times_of (frames_of pieces)) in
    ap total_of counts.counts ∙ total_is counts.fates falls (omega (arith, same, few)) ∙ sym same
