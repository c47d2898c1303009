-- The payload that messages look like, by their types and lengths.
use Rattle.std.specs.Prelude.{ℕ, Bool, true, false, ◌||◌, List, [], ◌∷◌, ◌++◌, length, if◌then◌else◌}
use Rattle.std.specs.List.{list_any, position_or_len}
use Rattle.quote_payload.specs.Payload.{type_at}
use Rattle.itch_messages.specs.Events.{is_form}
use Rattle.itch_messages.specs.Forms.{is_one_of, silent_forms, telling_forms}
use Rattle.message_forms.specs.declared.payload.Payload.{Payload}
use Rattle.message_forms.specs.declared.payload.Payload.TheVariants.{Neither, Itch, Own}

-- the forms of this project's messages: a quotation in either version, and a halt
abbrev pub own_forms : List (ℕ × ℕ)
own_forms = (0x51, 26) ∷ (0x71, 34) ∷ (0x48, 10) ∷ []

-- the forms of the standard; none of them is one of this project's
abbrev pub itch_forms : List (ℕ × ℕ)
itch_forms = telling_forms ++ silent_forms

abbrev pub is_own : List ℕ → Bool
is_own message = is_one_of own_forms message

abbrev pub is_itch : List ℕ → Bool
is_itch message = is_one_of itch_forms message

-- a message of this type and length
abbrev pub fits_form : List ℕ → ℕ × ℕ → Bool
fits_form message form = is_form form.0 form.1 (type_at message) (length message)

-- the place of the first form of the standard that a message has, or how many there are
unfoldable pub itch_place : List ℕ → ℕ
itch_place message = position_or_len (fits_form message) itch_forms

-- ---- what messages look like

abbrev pub is_look_own : Payload → Bool
is_look_own Neither = false
is_look_own Itch = false
is_look_own Own = true

abbrev pub is_look_itch : Payload → Bool
is_look_itch Neither = false
is_look_itch Itch = true
is_look_itch Own = false

-- what messages look like that go on with these: one of this project's forms outweighs all others
abbrev pub look_with : Payload → List (List ℕ) → Payload
look_with before messages =
    if is_look_own before || list_any is_own messages then Own
    else (if is_look_itch before || list_any is_itch messages then Itch else Neither)

-- what messages look like
abbrev pub look_of : List (List ℕ) → Payload
look_of messages = look_with Neither messages
