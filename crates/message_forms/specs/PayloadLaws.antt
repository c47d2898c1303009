-- The laws of what messages look like.
use Rattle.std.proofs.Common.{◌≡◌, Bool, true, false, ◌||◌, cond, List, [], ◌++◌, ℕ, refl, sym, ap, ◌∙◌, inl, inr}
use Rattle.std.specs.List.{list_any}
use Rattle.std.proofs.lemmas.List.Folds.{list_any-append}
use Rattle.mold_packet.specs.Bytes.{AreBytes}
use Rattle.mold_packet.specs.laws.EveryReading.{read_or_fault}
use Rattle.message_forms.specs.Datagrams.{HasMessages}
use Rattle.message_forms.specs.declared.payload.Payload.{Payload}
use Rattle.message_forms.specs.declared.payload.Payload.TheVariants.{Neither, Itch, Own}
use Rattle.message_forms.specs.Payloads.{is_itch, is_look_itch, is_look_own, is_own, look_with}

-- by whether any message is of this project's forms, and any of the standard's
abbrev look_by : Payload → Bool → Bool → Payload
look_by before own itch =
    cond (is_look_own before || own) Own (cond (is_look_itch before || itch) Itch Neither)

twice : (before : Payload) (own itch more_own more_itch : Bool)
    → look_by (look_by before own itch) more_own more_itch
    ≡ look_by before (own || more_own) (itch || more_itch)
twice Own own itch more_own more_itch = refl
twice Neither true itch more_own more_itch = refl
twice Neither false true more_own more_itch = refl
twice Neither false false more_own more_itch = refl
twice Itch true itch more_own more_itch = refl
twice Itch false true more_own more_itch = refl
twice Itch false false more_own more_itch = refl

-- no message more
pub look_none : (before : Payload) → look_with before [] ≡ before
look_none Neither = refl
look_none Itch = refl
look_none Own = refl

-- some messages, and then others
pub look_more : (before : Payload) (some others : List (List ℕ))
    → look_with (look_with before some) others ≡ look_with before (some ++ others)
look_more before some others =
    let own = list_any-append is_own some others in
    let itch = list_any-append is_itch some others in
    twice before (list_any is_own some) (list_any is_itch some) (list_any is_own others)
    (list_any is_itch others)
    ∙ ap (λ (b : Bool). look_by before b (list_any is_itch some || list_any is_itch others))
    (sym own)
    ∙ ap (look_by before (list_any is_own (some ++ others))) (sym itch)

none_is : false ≡ true → ⊥
none_is e = cc

-- one of this project's own was among them
pub own_stays : (before : Payload) (messages : List (List ℕ)) → is_look_own before ≡ true
    → look_with before messages ≡ before
own_stays Neither messages h = absurd (none_is h)
own_stays Itch messages h = absurd (none_is h)
own_stays Own messages h = refl

-- each datagram has messages
pub messages_are : (bytes : List ℕ) → AreBytes bytes
    → (messages : List (List ℕ)) × HasMessages bytes messages
messages_are bytes are = elim (read_or_fault bytes are) [
  | inl p ↦ (p.0.messages, inl (p.0, p.1, p.2, refl))
  | inr f ↦ ([], inr (f.0, f.1, refl))
]
