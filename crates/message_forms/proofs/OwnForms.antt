-- What has none of this project's forms is no quotation and no halt of it.
use Rattle.std.proofs.Common.{◌≡◌, ◌⊎◌, ℕ, Bool, true, false, ◌&&◌, ◌||◌, List, length, refl, sym, ap, ◌∙◌, cond, inl, inr}
use Rattle.std.specs.Prelude.{IsTrue, ◌==◌, nat_le}
use Rattle.std.proofs.lemmas.Bool.{or_parts}
use Rattle.feed_types.specs.Symbols.{is_symbol_field}
use Rattle.feed_types.specs.declared.item.Item.{Item}
use Rattle.feed_types.specs.declared.item.Item.TheVariants as item
use Rattle.quote_payload.specs.Payload.{item_of, state_at, symbol_at, type_at, version1_of, version2_of}
use Rattle.itch_messages.specs.Events.{is_form}
use Rattle.message_forms.specs.Payloads.{is_own}

none_is : false ≡ true → ⊥
none_is e = cc

not_all : (a b s : Bool) → (a && b) ≡ false → (a && (b && s)) ≡ false
not_all true true s h = absurd (none_is (sym h))
not_all true false s h = refl
not_all false b s h = refl

not_both : (a b : Bool) → a ≡ false → (a && b) ≡ false
not_both a b h = ap (λ (x : Bool). x && b) h

no_own : (message : List ℕ) → is_own message ≡ false → item_of message ≡ item.Other
unfolding item_of
no_own message h =
    let kind = type_at message in
    let len = length message in
    let second = is_form 0x71 34 kind len in
    let third = is_form 0x48 10 kind len in
    let symbol = is_symbol_field (symbol_at message) in
    let parts = or_parts (is_form 0x51 26 kind len) (second || (third || false)) h in
    let rest = or_parts second (third || false) parts.1 in
    let last = or_parts third false rest.1 in
    let halt = (kind == 0x48) && ((len == 10) && symbol) in
    let halting = halt && nat_le (state_at message) 1 in
    let by_halt : Bool → Item =
    λ b. cond b (item.Halt (symbol_at message) (state_at message == 1)) item.Other in
    let by_second : Bool → Item → Item = λ b i. cond b (item.Quote (version2_of message)) i in
    let by_first : Bool → Item → Item = λ b i. cond b (item.Quote (version1_of message)) i in
    ap (λ (b : Bool). by_first b (by_second ((kind == 0x71) && ((len == 34) && symbol))
    (by_halt halting))) (not_all (kind == 0x51) (len == 26) symbol parts.0)
    ∙ ap (λ (b : Bool). by_second b (by_halt halting))
    (not_all (kind == 0x71) (len == 34) symbol rest.0)
    ∙ ap by_halt (not_both halt (nat_le (state_at message) 1)
    (not_all (kind == 0x48) (len == 10) symbol last.0))

own_by : (message : List ℕ) (own : Bool) → is_own message ≡ own
    → IsTrue own ⊎ (item_of message ≡ item.Other)
own_by message true h = inl refl
own_by message false h = inr (no_own message h)

pub own_or_other : (message : List ℕ) → IsTrue (is_own message) ⊎ (item_of message ≡ item.Other)
own_or_other message = own_by message (is_own message) refl
