-- What a run of normalise sends meets what a replay's headline asks of its records.
use Rattle.std.proofs.Common.{◌≡◌, ℕ, Bool, true, false, List, [], ◌∷◌, ◌++◌, map, refl, sym, ap, ap₂, subst, ◌∙◌, append-nil}
use Rattle.std.specs.Prelude.{◌==◌, ◌&&◌, flat_map, if◌then◌else◌}
use Rattle.std.specs.List.{AllByRecursion}
use Rattle.std.specs.Str.{bytes_eq}
use Rattle.std.proofs.lemmas.Bool.{eq-eqb}
use Rattle.std.proofs.lemmas.Slice.Eq.{bytes_eq-Decides}
use Rattle.feed_types.specs.Sessions.{Session}
use Rattle.feed_types.specs.declared.item.Numbered.{Numbered}
use Rattle.line_arbiter.specs.Histories.{Begun}
use Rattle.line_arbiter.specs.OfSession.{IsOfSession}
use Rattle.mold_packet.specs.Content.{Content, IsContent, Spells, spelling}
use Rattle.capture_records.specs.Capture.{CaptureRecord, bytes_of_record, capture_of, datagram_record, renewal_record, self_help_record, skip_record}
use Rattle.normalising.specs.OfSession.{normalised_session}
use Rattle.normalising.specs.Sendings.{HoldsNoPacket, IsSending, Sending, packet_sent, packets_of_session, record_sent, sending_text}
use Rattle.normalising.specs.declared.output_form.OutputForm.TheVariants.{Own}
use Rattle.replay_run.specs.ToldHeadline.{HoldOnly, HoldsOnly}
use Rattle.venue_normaliser.specs.Outputs.{GivesItemsFrom, Opening}
use Rattle.nbbo_runs.specs.NormalisedReplays.{CanBeReplayed, record_sent_of}

-- ---- the text

same_bytes : (sendings : List Sending)
    → flat_map (sending_text Own) sendings ≡ flat_map bytes_of_record (map record_sent_of sendings)
same_bytes [] = refl
same_bytes (packet_sent venue time p ∷ rest) =
    ap (λ (xs : List ℕ). sending_text Own (packet_sent venue time p) ++ xs) (same_bytes rest)
same_bytes (record_sent r ∷ rest) =
    ap (λ (xs : List ℕ). sending_text Own (record_sent r) ++ xs) (same_bytes rest)

pub sent_capture : (sendings : List Sending)
    → flat_map (sending_text Own) sendings ≡ capture_of (map record_sent_of sendings) []
sent_capture sendings =
    same_bytes sendings
    ∙ sym (append-nil (flat_map bytes_of_record (map record_sent_of sendings)))

-- ---- the packets

first_of : (P : Content → Type 0) (b : Bool) (p : Content) (rest : List Content) → b ≡ true
    → AllByRecursion P ((if b then p ∷ [] else []) ++ rest) → P p
first_of P true p rest e each = each.0
first_of P false p rest e each = absurd cc

rest_of : (P : Content → Type 0) (b : Bool) (p : Content) (rest : List Content)
    → AllByRecursion P ((if b then p ∷ [] else []) ++ rest) → AllByRecursion P rest
rest_of P true p rest each = each.1
rest_of P false p rest each = each

-- the packet that its own bytes spell, in which nothing follows it
abbrev alone : Content → Content
alone p = record p { ignored = 0 }

alone_spells : (p : Content) → IsContent p → Spells (spelling p) (alone p) []
alone_spells p c = record {
  content = record {
    session = c.session;
    from_one = c.from_one;
    small = c.small;
    in_range = c.in_range;
    fits = c.fits;
    each = c.each;
  };
  ignored = refl;
  spelled = sym (append-nil (spelling p));
}

holds_no_packet : (place : ℕ) (s : Session) (r : CaptureRecord) → HoldsNoPacket r
    → HoldsOnly place s r
holds_no_packet place s (datagram_record venue line bytes) none = absurd none
holds_no_packet place s (skip_record venue number) none = tt
holds_no_packet place s (renewal_record venue name) none = tt
holds_no_packet place s (self_help_record venue on) none = tt

module _ (one_reading : (bytes : List ℕ) (p q : Content) (rest more : List ℕ)
    → Spells bytes p rest → Spells bytes q more → p ≡ q) (place : ℕ) (s : Session) where
  -- one packet that is sent
  holds_packet : (venue time : ℕ) (p : Content) (rest : List Content) → IsContent p
      → AllByRecursion (IsOfSession s)
      ((if (venue == place) && bytes_eq p.session s.name then p ∷ [] else []) ++ rest)
      → HoldsOnly place s (record_sent_of (packet_sent venue time p))
  holds_packet venue time p rest content each here q more spells named =
      subst (λ (x : Content). IsOfSession s x)
      (one_reading (spelling p) (alone p) q [] more (alone_spells p content) spells)
      (record { name = is.name; messages = is.messages; heartbeat = is.heartbeat; end = is.end })
    where
      same : p.session ≡ s.name
      same = ap (λ (x : Content). x.session)
          (one_reading (spelling p) (alone p) q [] more (alone_spells p content) spells) ∙ named

      chosen : ((venue == place) && bytes_eq p.session s.name) ≡ true
      chosen = ap₂ (λ (a b : Bool). a && b) (eq-eqb venue place here)
          ((bytes_eq-Decides p.session s.name).1 same)

      is : IsOfSession s p
      is = first_of (IsOfSession s) _ p rest chosen each

  pub sent_hold : (sendings : List Sending) → AllByRecursion IsSending sendings
      → AllByRecursion (IsOfSession s) (packets_of_session place s.name sendings)
      → HoldOnly place (map record_sent_of sendings) s
  sent_hold [] sound each = tt
  sent_hold (packet_sent venue time p ∷ rest) sound each = (
    holds_packet venue time p (packets_of_session place s.name rest) sound.0 each,
    sent_hold rest sound.1
        (rest_of (IsOfSession s) _ p (packets_of_session place s.name rest) each),
  )
  sent_hold (record_sent r ∷ rest) sound each =
      (holds_no_packet place s r sound.0, sent_hold rest sound.1 each)

-- ---- a session

-- what is put out of a session of which nothing came, whose messages make these items
pub none_sent : (one_reading : (bytes : List ℕ) (p q : Content) (rest more : List ℕ)
    → Spells bytes p rest → Spells bytes q more → p ≡ q)
    → (keys : List ℕ) (place : ℕ) (sendings : List Sending) (opening : Opening) (b : Begun)
    (messages : List (List ℕ)) (output : List Numbered) → AllByRecursion IsSending sendings
    → GivesItemsFrom keys opening messages b.packets output
    → packets_of_session place b.name sendings ≡ []
    → CanBeReplayed keys place sendings opening b messages
none_sent one_reading keys place sendings opening b messages output sound gives none = record {
  items = gives.items;
  are = record { within = gives.within; made = gives.made };
  hold = sent_hold one_reading place s sendings sound
      (subst (λ (ps : List Content). AllByRecursion (IsOfSession s) ps) (sym none) tt);
}
  where
    s : Session
    s = normalised_session b.name opening gives.items
