-- The sessions that follow others: those of one venue more.
use Rattle.std.proofs.Common.{◌≡◌, ℕ, zero, suc, ◌+◌, ◌<◌, inl, inr, List, [], ◌∷◌, ◌++◌, Ok, Err, length, take, map, refl, sym, ap, ◌∙◌, append-nil, append_assoc, arith}
use Rattle.std.specs.Prelude.{Result}
use Rattle.std.specs.List.{slice_index_or}
use Rattle.std.specs.Borrow.{Bor}
use Rattle.std.proofs.lemmas.List.{length-map, length-take-le}
use Rattle.std.proofs.lemmas.Option.{same_Some, none-some}
use Rattle.run_settings.specs.NextSessions.{FollowVenues}
use Rattle.run_settings.specs.declared.next_session.NextSession.{NextSession}
use Rattle.command_words.specs.NextSessions.{chain_in, chain_of, named_next, next_sessions_from, next_session_of}
use Rattle.command_words.specs.Readings.{Gives, OrNoMemory, and_then, mapped}
use Rattle.command_words.specs.declared.refusal.Refusal.{Refusal}

abbrev value_of : {A : Type 0} → List A → Result (List A) Refusal → List A
value_of d (Ok x) = x
value_of d (Err refusal) = d

abbrev Sessions : Type 0
Sessions = Result (List NextSession) Refusal

-- the sessions of one venue before those of others
abbrev before_all : ℕ → Result (List (List ℕ)) Refusal → Sessions → Sessions
before_all venue chain others =
    and_then chain (λ sessions. mapped (λ more. next_session_of venue sessions ++ more) others)

lift : (venue : ℕ) (chain : Result (List (List ℕ)) Refusal) (some all : Sessions)
    (tail found : List NextSession) → before_all venue chain some ≡ Ok found
    → ((more : List NextSession) → some ≡ Ok more → all ≡ Ok (more ++ tail))
    → before_all venue chain all ≡ Ok (found ++ tail)
lift venue (Err refusal) some all tail found is more =
    let bad : Err refusal ≡ Ok found = is in absurd (cc)
lift venue (Ok sessions) (Err refusal) all tail found is more =
    let bad : Err refusal ≡ Ok found = is in absurd (cc)
lift venue (Ok sessions) (Ok others) all tail found is more =
    let same : next_session_of venue sessions ++ others ≡ found = ap (value_of []) is in
    ap (λ (s : Sessions). mapped (λ m. next_session_of venue sessions ++ m) s) (more others refl)
    ∙ ap (λ (l : List NextSession). Ok l) (sym (append_assoc
    (next_session_of venue sessions) others tail)
    ∙ ap (λ (l : List NextSession). l ++ tail) same)

lift_refusal : (venue : ℕ) (chain : Result (List (List ℕ)) Refusal) (some all : Sessions)
    (found : List NextSession) (refusal : Refusal) → before_all venue chain some ≡ Ok found
    → ((more : List NextSession) → some ≡ Ok more → all ≡ Err refusal)
    → before_all venue chain all ≡ Err refusal
lift_refusal venue (Err other) some all found refusal is more =
    let bad : Err other ≡ Ok found = is in absurd (cc)
lift_refusal venue (Ok sessions) (Err other) all found refusal is more =
    let bad : Err other ≡ Ok found = is in absurd (cc)
lift_refusal venue (Ok sessions) (Ok others) all found refusal is more =
    ap (λ (s : Sessions). mapped (λ m. next_session_of venue sessions ++ m) s) (more others refl)

next_then : (venue n : ℕ) (xs : List (List ℕ)) (x : List ℕ) (sessions : List (List ℕ))
    (found : List NextSession) → n ≡ venue + length xs → next_sessions_from venue xs ≡ Ok found
    → chain_of (chain_in x) ≡ Ok sessions
    → next_sessions_from venue (xs ++ x ∷ []) ≡ Ok (found ++ next_session_of n sessions)
next_then venue n [] x sessions found e is chain =
    let none : [] ≡ found = ap (value_of []) is in
    let at : venue ≡ n = omega (arith, e) in
    ap (λ (c : Result (List (List ℕ)) Refusal). before_all venue c (Ok [])) chain
    ∙ ap (λ (l : List NextSession). Ok l) (append-nil (next_session_of venue sessions)
    ∙ ap (λ k. next_session_of k sessions) at
    ∙ ap (λ (l : List NextSession). l ++ next_session_of n sessions) none)
next_then venue n (y ∷ ys) x sessions found e is chain =
    lift venue (chain_of (chain_in y)) (next_sessions_from (venue + 1) ys)
    (next_sessions_from (venue + 1) (ys ++ x ∷ [])) (next_session_of n sessions) found is
    (λ more read. next_then (venue + 1) n ys x sessions more (omega (arith, e)) read chain)

next_refused : (venue : ℕ) (xs : List (List ℕ)) (x : List ℕ) (others : List (List ℕ))
    (found : List NextSession) (refusal : Refusal) → next_sessions_from venue xs ≡ Ok found
    → chain_of (chain_in x) ≡ Err refusal
    → next_sessions_from venue (xs ++ x ∷ others) ≡ Err refusal
next_refused venue [] x others found refusal is chain =
    ap (λ (c : Result (List (List ℕ)) Refusal).
    before_all venue c (next_sessions_from (venue + 1) others)) chain
next_refused venue (y ∷ ys) x others found refusal is chain =
    lift_refusal venue (chain_of (chain_in y)) (next_sessions_from (venue + 1) ys)
    (next_sessions_from (venue + 1) (ys ++ x ∷ others)) found refusal is
    (λ more read. next_refused (venue + 1) ys x others more refusal read chain)

-- ---- the texts, up to a place

abbrev texts_of : List (Bor (List ℕ)) → List (List ℕ)
texts_of texts = map (λ text. text.now) texts

cut_at : (texts : List (Bor (List ℕ))) (n venues : ℕ) (d : Bor (List ℕ)) → n < venues
    → n < length texts → (others : List (List ℕ)) × (take venues (texts_of texts)
    ≡ take n (texts_of texts) ++ (slice_index_or texts n d).now ∷ others)
cut_at [] n venues d less within = absurd (omega (arith, within))
cut_at (t ∷ ts) zero zero d less within = absurd (omega (arith, less))
cut_at (t ∷ ts) zero (suc venues) d less within = (take venues (texts_of ts), refl)
cut_at (t ∷ ts) (suc n) zero d less within = absurd (omega (arith, less))
cut_at (t ∷ ts) (suc n) (suc venues) d less within =
    let found = cut_at ts n venues d (omega (arith, less)) (omega (arith, within)) in
    (found.0, ap (λ (l : List (List ℕ)). t.now ∷ l) found.1)

one_text_more : (texts : List (Bor (List ℕ))) (n : ℕ) (d : Bor (List ℕ)) → n < length texts
    → take (suc n) (texts_of texts)
    ≡ take n (texts_of texts) ++ (slice_index_or texts n d).now ∷ []
one_text_more [] n d within = absurd (omega (arith, within))
one_text_more (t ∷ ts) zero d within = refl
one_text_more (t ∷ ts) (suc n) d within =
    ap (λ (l : List (List ℕ)). t.now ∷ l) (one_text_more ts n d (omega (arith, within)))

-- the text at a place names sessions
pub read_more : (texts : List (Bor (List ℕ))) (n : ℕ) (d : Bor (List ℕ))
    (sessions : List (List ℕ)) (found : List NextSession) → n < length texts
    → next_sessions_from 0 (take n (texts_of texts)) ≡ Ok found
    → chain_of (chain_in (slice_index_or texts n d).now) ≡ Ok sessions
    → next_sessions_from 0 (take (n + 1) (texts_of texts)) ≡ Ok
    (found ++ next_session_of n sessions)
read_more texts n d sessions found within is chain =
    let on : n + 1 ≡ suc n = omega arith in
    let len : length (texts_of texts) ≡ length texts =
    length-map texts (λ (text : Bor (List ℕ)). text.now) in
    let all : length (take n (texts_of texts)) ≡ n =
    length-take-le n (texts_of texts) (omega (arith, within, len)) in
    ap (λ k. next_sessions_from 0 (take k (texts_of texts))) on
    ∙ ap (next_sessions_from 0) (one_text_more texts n d within)
    ∙ next_then 0 n (take n (texts_of texts)) (slice_index_or texts n d).now sessions found
    (omega (arith, all)) is chain

-- it is refused
pub refused_at : (texts : List (Bor (List ℕ))) (n venues : ℕ) (d : Bor (List ℕ))
    (found : List NextSession) (refusal : Refusal) → n < venues → n < length texts
    → next_sessions_from 0 (take n (texts_of texts)) ≡ Ok found
    → OrNoMemory (Gives (chain_of (chain_in (slice_index_or texts n d).now))) (Err refusal)
    → OrNoMemory (Gives (next_sessions_from 0 (take venues (texts_of texts)))) (Err refusal)
refused_at texts n venues d found refusal less within is (inl memory) = inl memory
refused_at texts n venues d found refusal less within is (inr chain) =
    let parts = cut_at texts n venues d less within in
    inr (sym (ap (next_sessions_from 0) parts.1
    ∙ next_refused 0 (take n (texts_of texts)) (slice_index_or texts n d).now parts.0 found
    refusal is (sym chain)))

-- ---- the venues

pub none_follow : (venues : ℕ) → FollowVenues venues []
none_follow venues place next e = absurd (none-some next (sym e))

pub named_follow : (venues venue : ℕ) (names : List (List ℕ)) → venue < venues
    → FollowVenues venues (named_next venue names)
named_follow venues venue [] less place next e = absurd (none-some next (sym e))
named_follow venues venue (x ∷ xs) less zero next e =
    let at : next.venue ≡ venue = ap (λ (s : NextSession). s.venue) (same_Some next _ e) in
    omega (arith, at, less)
named_follow venues venue (x ∷ xs) less (suc place) next e =
    named_follow venues venue xs less place next e

pub both_follow : (venues : ℕ) (xs ys : List NextSession) → FollowVenues venues xs
    → FollowVenues venues ys → FollowVenues venues (xs ++ ys)
both_follow venues [] ys a b place next e = b place next e
both_follow venues (x ∷ xs) ys a b zero next e = a zero next e
both_follow venues (x ∷ xs) ys a b (suc place) next e =
    both_follow venues xs ys (λ k. a (suc k)) b place next e
