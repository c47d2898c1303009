-- What holds of each form of a table holds of a message that has one of them.
use Rattle.std.proofs.Common.{◌≡◌, ℕ, Bool, true, false, ◌&&◌, ◌||◌, List, [], ◌∷◌, ◌++◌, length, map, sym, subst, refl, inl, inr, eqb-true}
use Rattle.std.specs.Prelude.{if◌then◌else◌, ◌==◌, nat_le}
use Rattle.std.specs.List.{list_any}
use Rattle.std.proofs.lemmas.Bool.{and_parts, or_cases}
use Rattle.feed_types.specs.Symbols.{is_symbol_field}
use Rattle.feed_types.specs.declared.item.Item.{Item}
use Rattle.feed_types.specs.declared.item.Item.TheVariants as item
use Rattle.quote_payload.specs.Payload.{symbol_at, type_at, version1_of, version2_of, state_at, item_of}
use Rattle.itch_messages.specs.declared.event.OrderEvent.TheVariants as event
use Rattle.itch_messages.specs.Events.{is_form, event_by, order_event_of}
use Rattle.itch_messages.specs.Forms.{telling_forms, silent_forms, is_one_of}

is_form-same : (P : ℕ → ℕ → Type 0) (wanted size kind len : ℕ) → is_form wanted size kind len ≡ true
    → P wanted size → P kind len
is_form-same P wanted size kind len h p =
    let both = and_parts (kind == wanted) (len == size) h in
    subst (λ (n : ℕ). P kind n) (sym (eqb-true len size both.1))
    (subst (λ (n : ℕ). P n size) (sym (eqb-true kind wanted both.0)) p)

none_is : false ≡ true → ⊥
none_is e = cc

pub of_each_form : {X : Type 0} (made : ℕ → ℕ → X) (x : X) (forms : List (ℕ × ℕ)) (kind len : ℕ)
    → map (λ (form : ℕ × ℕ). made form.0 form.1) forms ≡ map (λ (form : ℕ × ℕ). x) forms
    → list_any (λ (form : ℕ × ℕ). is_form form.0 form.1 kind len) forms ≡ true → made kind len ≡ x
of_each_form made x [] kind len all h = absurd (none_is h)
of_each_form made x (form ∷ forms) kind len all h =
    let first : made form.0 form.1 ≡ x = cc in
    let others : map (λ (f : ℕ × ℕ). made f.0 f.1) forms ≡ map (λ (f : ℕ × ℕ). x) forms = cc in
    elim (or_cases (is_form form.0 form.1 kind len)
    (list_any (λ (f : ℕ × ℕ). is_form f.0 f.1 kind len) forms) h) [
      | inl here ↦ is_form-same (λ (k l : ℕ). made k l ≡ x) form.0 form.1 kind len here first
      | inr later ↦ of_each_form made x forms kind len others later
    ]

-- the item of a message of this type and length
abbrev item_by : ℕ → ℕ → List ℕ → Item
item_by kind len message =
    if (kind == 0x51) && ((len == 26) && is_symbol_field (symbol_at message))
    then item.Quote (version1_of message) else
    (if (kind == 0x71) && ((len == 34) && is_symbol_field (symbol_at message))
    then item.Quote (version2_of message) else
    (if ((kind == 0x48) && ((len == 10) && is_symbol_field (symbol_at message)))
    && nat_le (state_at message) 1
    then item.Halt (symbol_at message) (state_at message == 1) else item.Other))

pub no_quotation : (message : List ℕ)
    → is_one_of (telling_forms ++ silent_forms) message ≡ true → item_of message ≡ item.Other
unfolding item_of
no_quotation message h =
    of_each_form (λ (kind len : ℕ). item_by kind len message) item.Other
    (telling_forms ++ silent_forms) (type_at message) (length message) refl h

pub silent_event : (message : List ℕ) → is_one_of silent_forms message ≡ true
    → order_event_of message ≡ event.Other
unfolding order_event_of
silent_event message h =
    of_each_form (λ (kind len : ℕ). event_by kind len message) event.Other silent_forms
    (type_at message) (length message) refl h
