-- What one more entry says of a venue: its side, the side's age, self-help and halts.
use Rattle.std.proofs.Common.{ℕ, zero, suc, ◌<◌, ◌≤◌, ◌≡◌, List, [], ◌∷◌, ◌++◌, Bool, true, false, refl, ap, sym, ◌∙◌, arith, length, take, nat_eq, cond, Option, Some, None, unwrap_or, length-append}
use Rattle.std.proofs.lemmas.List.{take-append-le}
use Rattle.std.proofs.Math.Seq.{take-append_seam}
use Rattle.std.specs.Prelude.{◌&&◌}
use Rattle.feed_types.specs.declared.journal.Entry.{Entry}
use Rattle.feed_types.specs.declared.line.Side.{Side}
use Rattle.nbbo_book.specs.declared.side_quote.SideQuote.{SideQuote}
use Rattle.nbbo_book.specs.Sides.{later, last_said, side_said, side_of, is_same_flag, is_same_side, since, age_of}
use Rattle.nbbo_book.specs.Eligible.{self_help_said, is_self_helped, halt_said, is_halted}
use Rattle.nbbo_book.proofs.Ranking.{nat_same, nat_refl}

later_none : {T : Type 0} (o : Option T) → later None o ≡ o
later_none None = refl
later_none (Some x) = refl

later_assoc : {T : Type 0} (a b c : Option T) → later a (later b c) ≡ later (later a b) c
later_assoc a b None = refl
later_assoc a b (Some x) = refl

last_said-put : {T : Type 0} (says : Entry → Option T) (es : List Entry) (e : Entry)
    → last_said says (es ++ e ∷ []) ≡ later (last_said says es) (says e)
last_said-put says [] e = sym (later_none (says e))
last_said-put says (x ∷ es) e = ap (later (says x)) (last_said-put says es e)
    ∙ later_assoc (says x) (last_said says es) (says e)

unwrap_later : {T : Type 0} (a b : Option T) (d : T)
    → unwrap_or (later a b) d ≡ unwrap_or b (unwrap_or a d)
unwrap_later a None d = refl
unwrap_later a (Some x) d = refl

-- one more entry says what the side is, or leaves it
pub side_of-put : (es : List Entry) (e : Entry) (v : ℕ) (s : List ℕ) (b : Side)
    → side_of (es ++ e ∷ []) v s b ≡ unwrap_or (side_said v s b e) (side_of es v s b)
side_of-put es e v s b = ap (λ o. unwrap_or o None) (last_said-put (side_said v s b) es e)
    ∙ unwrap_later (last_said (side_said v s b) es) (side_said v s b e) None

pub helped-put : (es : List Entry) (e : Entry) (v : ℕ)
    → is_self_helped (es ++ e ∷ []) v ≡ unwrap_or (self_help_said v e) (is_self_helped es v)
helped-put es e v = ap (λ o. unwrap_or o false) (last_said-put (self_help_said v) es e)
    ∙ unwrap_later (last_said (self_help_said v) es) (self_help_said v e) false

pub halted-put : (es : List Entry) (e : Entry) (v : ℕ) (s : List ℕ)
    → is_halted (es ++ e ∷ []) v s ≡ unwrap_or (halt_said v s e) (is_halted es v s)
halted-put es e v s = ap (λ o. unwrap_or o false) (last_said-put (halt_said v s) es e)
    ∙ unwrap_later (last_said (halt_said v s) es) (halt_said v s e) false

same_flag_sound : (a b : Bool) → is_same_flag a b ≡ true → a ≡ b
same_flag_sound true b h = sym h
same_flag_sound false true h = h
same_flag_sound false false h = refl

same_flag_refl : (a : Bool) → is_same_flag a a ≡ true
same_flag_refl true = refl
same_flag_refl false = refl

pub and_left : (a b : Bool) → (a && b) ≡ true → a ≡ true
and_left true b h = refl
and_left false b h = h

pub and_right : (a b : Bool) → (a && b) ≡ true → b ≡ true
and_right true b h = h
and_right false b h = cc

quote_same : (x y : SideQuote) → x.price ≡ y.price → x.size ≡ y.size
    → x.automated ≡ y.automated → x ≡ y
quote_same x y p q r = ap (λ t. record { price = t; size = x.size; automated = x.automated }) p
    ∙ ap (λ t. record { price = y.price; size = t; automated = x.automated }) q
    ∙ ap (λ t. record { price = y.price; size = y.size; automated = t }) r

pub same_side_sound : (x y : Option SideQuote) → is_same_side x y ≡ true → x ≡ y
same_side_sound None None h = refl
same_side_sound None (Some y) h = cc
same_side_sound (Some x) None h = cc
same_side_sound (Some x) (Some y) h =
    let rest = and_right (nat_eq x.price y.price) ((nat_eq x.size y.size)
    && is_same_flag x.automated y.automated) h in
    ap Some (quote_same x y (nat_same x.price y.price (and_left (nat_eq x.price y.price) _ h))
    (nat_same x.size y.size (and_left (nat_eq x.size y.size) (is_same_flag x.automated y.automated)
    rest))
    (same_flag_sound x.automated y.automated
    (and_right (nat_eq x.size y.size) (is_same_flag x.automated y.automated) rest)))

pub same_side_refl : (x : Option SideQuote) → is_same_side x x ≡ true
same_side_refl None = refl
same_side_refl (Some x) =
    ap (λ t. t && ((nat_eq x.size x.size) && is_same_flag x.automated x.automated))
    (nat_refl x.price) ∙ ap (λ t. t && is_same_flag x.automated x.automated) (nat_refl x.size)
    ∙ same_flag_refl x.automated

pub since-≤ : (f : ℕ → Option SideQuote) (x : Option SideQuote) (n : ℕ) → since f x n ≤ n
since-≤ f x zero = omega arith
since-≤ f x (suc n) = elim (is_same_side (f n) x) as (λ b. cond b (since f x n) (suc n) ≤ suc n)
    [ true ↦ omega (arith, since-≤ f x n) | false ↦ omega arith ]

since-same : (f g : ℕ → Option SideQuote) (x : Option SideQuote) (n : ℕ)
    → ((k : ℕ) → k < n → f k ≡ g k)
    → since f x n ≡ since g x n
since-same f g x zero h = refl
since-same f g x (suc n) h = ap (λ t. cond (is_same_side t x) (since f x n) (suc n))
    (h n (omega arith))
    ∙ ap (λ t. cond (is_same_side (g n) x) t (suc n))
    (since-same f g x n (λ k b. h k (omega (arith, b))))

pub age-≤ : (es : List Entry) (v : ℕ) (s : List ℕ) (b : Side) → age_of es v s b ≤ length es
age-≤ es v s b = since-≤ (λ n. side_of (take n es) v s b) (side_of es v s b) (length es)

prefix_same : (es : List Entry) (e : Entry) (v : ℕ) (s : List ℕ) (b : Side) (k : ℕ) → k ≤ length es
    → side_of (take k (es ++ e ∷ [])) v s b ≡ side_of (take k es) v s b
prefix_same es e v s b k h = ap (λ t. side_of t v s b) (take-append-le k es (e ∷ []) h)

age_step : (es : List Entry) (e : Entry) (v : ℕ) (s : List ℕ) (b : Side)
    → age_of (es ++ e ∷ []) v s b ≡ cond (is_same_side (side_of es v s b)
    (side_of (es ++ e ∷ []) v s b))
    (since (λ n. side_of (take n es) v s b) (side_of (es ++ e ∷ []) v s b) (length es))
    (suc (length es))
age_step es e v s b =
    let new = side_of (es ++ e ∷ []) v s b in
    let f : ℕ → Option SideQuote = λ n. side_of (take n (es ++ e ∷ [])) v s b in
    let long : length (es ++ e ∷ []) ≡ suc (length es) = omega (arith, length-append es (e ∷ [])) in
    ap (λ n. since f new n) long
    ∙ ap (λ t. cond (is_same_side t new) (since f new (length es)) (suc (length es)))
    (ap (λ t. side_of t v s b) (take-append_seam es (e ∷ [])))
    ∙ ap (λ t. cond (is_same_side (side_of es v s b) new) t (suc (length es)))
    (since-same f (λ n. side_of (take n es) v s b) new (length es)
    (λ k h. prefix_same es e v s b k (omega (arith, h))))

-- a side that stays as it is keeps its age
pub age-kept : (es : List Entry) (e : Entry) (v : ℕ) (s : List ℕ) (b : Side)
    → side_of (es ++ e ∷ []) v s b ≡ side_of es v s b
    → age_of (es ++ e ∷ []) v s b ≡ age_of es v s b
age-kept es e v s b h = age_step es e v s b
    ∙ ap (λ t. cond (is_same_side (side_of es v s b) t)
    (since (λ n. side_of (take n es) v s b) t (length es))
    (suc (length es))) h ∙ ap (λ t. cond t (age_of es v s b) (suc (length es)))
    (same_side_refl (side_of es v s b))

-- a side that changes is as old as the entry
pub age-new : (es : List Entry) (e : Entry) (v : ℕ) (s : List ℕ) (b : Side)
    → is_same_side (side_of es v s b) (side_of (es ++ e ∷ []) v s b) ≡ false
    → age_of (es ++ e ∷ []) v s b ≡ suc (length es)
age-new es e v s b h = age_step es e v s b
    ∙ ap (λ t. cond t (since (λ n. side_of (take n es) v s b) (side_of (es ++ e ∷ []) v s b)
    (length es))
    (suc (length es))) h
