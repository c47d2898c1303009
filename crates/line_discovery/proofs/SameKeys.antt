-- Keys that are found to be the same are equal.
use Rattle.std.proofs.Common.{◌≡◌, ℕ, List, Option, Some, None, true, false, refl, sym, ap, subst, ◌∙◌}
use Rattle.std.specs.Prelude.{Bool, ◌&&◌, ◌==◌}
use Rattle.std.proofs.lemmas.Slice.Eq.{bytes_eq-Decides}
use Rattle.std.proofs.lemmas.Bool.{and_from, and_parts}
use Rattle.std.proofs.lemmas.Bool.Decides.{Decides-eqb}
use Rattle.packet_capture.specs.declared.datagram.Address.{Address}
use Rattle.packet_capture.specs.declared.datagram.Address.TheVariants.{V4, V6}
use Rattle.line_discovery.specs.declared.line_key.LineKey.{LineKey}
use Rattle.line_discovery.specs.Keys.{same_address, same_key, same_session}

address_is : (a b : Address) → same_address a b ≡ true → a ≡ b
address_is (V4 a) (V4 b) h = ap (λ (x : List ℕ). V4 x) ((bytes_eq-Decides a b).0 h)
address_is (V4 a) (V6 b) h = absurd cc
address_is (V6 a) (V4 b) h = absurd cc
address_is (V6 a) (V6 b) h = ap (λ (x : List ℕ). V6 x) ((bytes_eq-Decides a b).0 h)

address_same : (a : Address) → same_address a a ≡ true
address_same (V4 a) = (bytes_eq-Decides a a).1 refl
address_same (V6 a) = (bytes_eq-Decides a a).1 refl

session_is : (a b : Option (List ℕ)) → same_session a b ≡ true → a ≡ b
session_is None None h = refl
session_is None (Some b) h = absurd cc
session_is (Some a) None h = absurd cc
session_is (Some a) (Some b) h = ap (λ (x : List ℕ). Some x) ((bytes_eq-Decides a b).0 h)

session_same : (a : Option (List ℕ)) → same_session a a ≡ true
session_same None = refl
session_same (Some a) = (bytes_eq-Decides a a).1 refl

parts_are : (a b : LineKey) → a.address ≡ b.address → a.port ≡ b.port → a.session ≡ b.session
    → a ≡ b
parts_are a b e f g =
    let first : Address → LineKey =
    λ x. record { address = x; port = a.port; session = a.session } in
    let second : ℕ → LineKey =
    λ x. record { address = b.address; port = x; session = a.session } in
    let third : Option (List ℕ) → LineKey =
    λ x. record { address = b.address; port = b.port; session = x } in
    ap first e ∙ ap second f ∙ ap third g

pub key_is : (a b : LineKey) → same_key a b ≡ true → a ≡ b
key_is a b h =
    let one = and_parts (same_address a.address b.address)
    ((a.port == b.port) && same_session a.session b.session) h in
    let two = and_parts (a.port == b.port) (same_session a.session b.session) one.1 in
    parts_are a b (address_is a.address b.address one.0) ((Decides-eqb a.port b.port).0 two.0)
    (session_is a.session b.session two.1)

pub key_same : (a : LineKey) → same_key a a ≡ true
key_same a =
    and_from (same_address a.address a.address)
    ((a.port == a.port) && same_session a.session a.session) (address_same a.address)
    (and_from (a.port == a.port) (same_session a.session a.session)
    ((Decides-eqb a.port a.port).1 refl) (session_same a.session))

-- a test that is right is the one of the definition
tested : (r t : Bool) → (r ≡ true → t ≡ true) → (t ≡ true → r ≡ true) → r ≡ t
tested true t there back = sym (there refl)
tested false true there back = back refl
tested false false there back = refl

pub tested_key : (r : Bool) (a b : LineKey) → (r ≡ true → a ≡ b) → (a ≡ b → r ≡ true)
    → r ≡ same_key a b
tested_key r a b there back = tested r (same_key a b)
    (λ h. subst (λ (x : LineKey). same_key a x ≡ true) (there h) (key_same a))
    (λ h. back (key_is a b h))

pub tested_session : (r : Bool) (a b : Option (List ℕ)) → (r ≡ true → a ≡ b) → (a ≡ b → r ≡ true)
    → r ≡ same_session a b
tested_session r a b there back = tested r (same_session a b)
    (λ h. subst (λ (x : Option (List ℕ)). same_session a x ≡ true) (there h) (session_same a))
    (λ h. back (session_is a b h))
