-- What a run writes of each session of a venue.
use Rattle.std.proofs.Common.{◌≡◌, ◌≢◌, ◌⊎◌, ℕ, ◌+◌, ◌<◌, Bool, true, false, List, [], ◌∷◌, ◌++◌, length, map, refl, sym, ap, ap₂, subst, ◌∙◌, inl, inr, arith, append-nil, append_assoc, Option, None, Some, Result, Ok, Err}
use Rattle.std.specs.Prelude.{flat_map, ◌==◌, ◌&&◌, nat_lt, Contains, slice_get, slice_index_or, slice_set, if◌then◌else◌}
use Rattle.std.specs.List.{AllByRecursion}
use Rattle.std.specs.Str.{bytes_eq}
use Rattle.std.proofs.lemmas.Bool.{cases_lt, eq-eqb, eqb-true, ltb-true}
use Rattle.std.proofs.lemmas.List.{map-append}
use Rattle.std.proofs.lemmas.List.Concat.{flat_map-append}
use Rattle.std.proofs.lemmas.List.Elements.{All-contains_itself, Contains-append_left, Contains-push, recursion_from_All}
use Rattle.std.proofs.lemmas.Slice.Eq.{bytes_eq-Decides}
use Rattle.feed_types.specs.declared.item.Numbered.{Numbered}
use Rattle.feed_types.specs.declared.line.LineId.{LineId}
use Rattle.line_arbiter.specs.Answered.{AreAnswered, AreAnsweredAfter, IsAnswered}
use Rattle.line_arbiter.specs.Histories.{Begun, History, all_begun, names_of, new_session}
use Rattle.line_arbiter.specs.declared.faults.RenewFault.{RenewFault}
use Rattle.line_arbiter.specs.declared.faults.SkipFault.{SkipFault}
use Rattle.line_arbiter.specs.Packets.{Input, Skip, arrival_of, end_of}
use Rattle.line_arbiter.specs.Renewals.{IsRenewal}
use Rattle.line_arbiter.specs.Skips.{IsSkip}
use Rattle.mold_packet.specs.declared.packet.Kind.{Kind}
use Rattle.mold_packet.specs.declared.packet.Kind.TheVariants as kinds
use Rattle.mold_packet.specs.Content.{Content, IsContent, KindFits, spelling}
use Rattle.capture_records.specs.Capture.{CaptureRecord, datagram_record, record_venue, renewal_record, self_help_record, skip_record}
use Rattle.capture_records.specs.Formats.{TimedRecord}
use Rattle.venue_normaliser.specs.declared.end_number.EndNumber.{EndNumber}
use Rattle.venue_normaliser.specs.declared.end_number.EndNumber.TheVariants.{Next, Last}
use Rattle.venue_normaliser.specs.Ends.{is_end, read_as}
use Rattle.venue_normaliser.specs.Snapshots.{SnapshotContent}
use Rattle.venue_normaliser.specs.Outputs.{IsPutOutFrom, Opening, from_start, opened_at}
use Rattle.item_packets.specs.Openings.{BeginsAt, IsOpening}
use Rattle.item_packets.specs.laws.Opened.{begins_any, begins_more, begins_opened, may_open, opened_first, opened_later, shown_messages, starts}
use Rattle.normalising.specs.Carried.{BeatsAt, BeatsWithin, Carry, items_carried, last_put}
use Rattle.normalising.specs.Normalised.{BeginsWith, IsNewPoint, LeavesVenue, NormalisedHistory, NormalisedPoint, NormalisesAll, NormalisesAt, NormalisesPacket, NormalisesRecord, NormalisesRenewal, NormalisesSkip, PassesOn, PutsOutMore, RenewsBy, SkipsBy, inputs_of, quoted_keys, snapshot_at, time_after}
use Rattle.normalising.specs.Sendings.{AllBegun, HoldsNoPacket, IsSending, Sending, packet_sent, record_sent, SendsNothing, SendsPutOut, SendsSession, SendsSessions, packet_of_session, packets_of_session, sending_text}
use Rattle.normalising.specs.Texts.{datagram_text, record_text}
use Rattle.normalising.specs.declared.normalised_feed.NormalisedFeed.{NormalisedFeed}
use Rattle.item_packets.specs.laws.Parts.{all_append}
use Rattle.normalising.proofs.Heartbeats.{now_within, still_within}
use Rattle.normalising.proofs.Venue.{after_begun, after_given, same_names}
use Rattle.feed_types.specs.ListLaws.{get_set_other, get_set_same, same_or_not}

-- ---- packets of a session

-- the packets of a venue's step
abbrev sent_at : ℕ → ℕ → List Content → List Sending
sent_at venue time packets = map (λ p. packet_sent venue time p) packets

of_session_both : (place : ℕ) (name : List ℕ) (xs ys : List Sending)
    → packets_of_session place name (xs ++ ys)
    ≡ packets_of_session place name xs ++ packets_of_session place name ys
of_session_both place name xs ys = flat_map-append (packet_of_session place name) xs ys

same_place : (p : ℕ) → (p == p) ≡ true
same_place p = eq-eqb p p refl

not_true : (b : Bool) → (b ≡ true → ⊥) → b ≡ false
not_true true n = absurd (n refl)
not_true false n = refl

other_place : (p q : ℕ) → p ≢ q → (p == q) ≡ false
other_place p q n = not_true (p == q) (λ e. n (eqb-true p q e))

same_bytes : (xs : List ℕ) → bytes_eq xs xs ≡ true
same_bytes xs = (bytes_eq-Decides xs xs).1 refl

other_bytes : (xs ys : List ℕ) → xs ≢ ys → bytes_eq xs ys ≡ false
other_bytes xs ys n = not_true (bytes_eq xs ys) (λ e. n ((bytes_eq-Decides xs ys).0 e))

-- packets of the session
all_of : (place time : ℕ) (name : List ℕ) (ps : List Content)
    → AllByRecursion (λ p. p.session ≡ name) ps
    → packets_of_session place name (sent_at place time ps) ≡ ps
all_of place time name [] each = refl
all_of place time name (p ∷ ps) each =
    ap₂ (λ (b : Bool) (rest : List Content). (if b then p ∷ [] else []) ++ rest)
    (ap₂ (λ (a b : Bool). a && b) (same_place place)
    (ap (bytes_eq p.session) (sym each.0) ∙ same_bytes p.session))
    (all_of place time name ps each.1)

-- packets of another one
none_of : (place time : ℕ) (name other : List ℕ) (ps : List Content)
    → AllByRecursion (λ p. p.session ≡ name) ps → name ≢ other
    → packets_of_session place other (sent_at place time ps) ≡ []
none_of place time name other [] each n = refl
none_of place time name other (p ∷ ps) each n =
    ap₂ (λ (b : Bool) (rest : List Content). (if b then p ∷ [] else []) ++ rest)
    (ap₂ (λ (a b : Bool). a && b) (same_place place)
    (other_bytes p.session other (λ e. n (sym each.0 ∙ e))))
    (none_of place time name other ps each.1 n)

-- packets of another venue
none_here : (place venue time : ℕ) (name : List ℕ) (ps : List Content) → venue ≢ place
    → packets_of_session place name (sent_at venue time ps) ≡ []
none_here place venue time name [] n = refl
none_here place venue time name (p ∷ ps) n =
    ap₂ (λ (a : Bool) (rest : List Content).
    (if a && bytes_eq p.session name then p ∷ [] else []) ++ rest)
    (other_place venue place n)
    (none_here place venue time name ps n)

-- ---- a venue

-- what is sent of the venue is of its sessions
abbrev IsNamed : ℕ → List (List ℕ) → List Sending → Type 0
IsNamed place names sendings =
    (name : List ℕ) → (Contains names name → ⊥) → packets_of_session place name sendings ≡ []

-- how the session after these begins, of which the first one began so
abbrev opening_after : Opening → List Begun → Opening
opening_after first [] = first
opening_after first (b ∷ bs) = from_start

-- what is put out of the present session is sent; nothing, if nothing came
abbrev IsSent : (keys : List ℕ) → NormalisedHistory → List Content → Type 0
IsSent keys h packets =
    ((inputs_of h ≡ opened_at h.opening.number) × (h.output ≡ []) × (packets ≡ []))
    ⊎ IsPutOutFrom keys h.opening (inputs_of h) h.output

record Sends (feed : NormalisedFeed) (place : ℕ) (sendings : List Sending)
    (h : NormalisedHistory) : Type 0 where
  first : Opening
  begins_with : BeginsWith (quoted_keys feed) (snapshot_at feed.snapshots.now place) first
  earlier : AllBegun (SendsSession feed place sendings) first h.history.earlier
  opening : h.opening ≡ opening_after first h.history.earlier
  opens : IsOpening h.opening
  begins : BeginsAt h.opening.number (inputs_of h)
  apart : AllByRecursion (λ b. h.history.present.name ≡ b.name → ⊥) h.history.earlier
  answered : AreAnswered h.history.present.name feed.normaliser.window (inputs_of h)
  sent : IsSent (quoted_keys feed) h
      (packets_of_session place h.history.present.name sendings)
  carry : Carry h.history.present.name h.output
      (packets_of_session place h.history.present.name sendings)
  heartbeats : AllByRecursion (BeatsWithin (last_put h.opening (inputs_of h)))
      (packets_of_session place h.history.present.name sendings)
  named : IsNamed place (names_of h.history) sendings

present_sends : {feed : NormalisedFeed} {place : ℕ} {sendings : List Sending}
    {h : NormalisedHistory} → Sends feed place sendings h
    → SendsSession feed place sendings h.opening h.history.present
present_sends {feed = feed} {place = place} {sendings = sendings} {h = h} s = record {
  opens = s.opens;
  begins = s.begins;
  answered = s.answered;
  sends = by_sent s.sent;
}
  where
    packets : List Content
    packets = packets_of_session place h.history.present.name sendings

    by_sent : IsSent (quoted_keys feed) h packets
        → SendsNothing h.opening h.history.present packets
        ⊎ SendsPutOut (quoted_keys feed) h.opening h.history.present packets
    by_sent (inl none) = inl (record { none = none.0; unsent = none.2 })
    by_sent (inr out) = inr (record {
      output = h.output;
      put_out = out;
      carry = s.carry;
      heartbeats = s.heartbeats;
    })

all_begun_more : (P : Opening → Begun → Type 0) (first : Opening) (bs : List Begun) (b : Begun)
    → AllBegun P first bs → P (opening_after first bs) b → AllBegun P first (bs ++ b ∷ [])
all_begun_more P first [] b each now = (now, tt)
all_begun_more P first (c ∷ bs) b each now =
    (each.0, all_append (P from_start) bs (b ∷ []) each.1 (now, tt))

sends_all : {feed : NormalisedFeed} {place : ℕ} {sendings : List Sending} {h : NormalisedHistory}
    → (s : Sends feed place sendings h)
    → AllBegun (SendsSession feed place sendings) s.first (all_begun h.history)
sends_all {feed = feed} {place = place} {sendings = sendings} {h = h} s =
    all_begun_more (SendsSession feed place sendings) s.first h.history.earlier h.history.present
    s.earlier
    (subst (λ (o : Opening). SendsSession feed place sendings o h.history.present) s.opening
    (present_sends s))

-- an earlier session stays where nothing of it is sent
session_stays : (feed : NormalisedFeed) (place : ℕ) (old more : List Sending) (opening : Opening)
    (b : Begun) → packets_of_session place b.name more ≡ []
    → SendsSession feed place old opening b → SendsSession feed place (old ++ more) opening b
session_stays feed place old more opening b none s = record {
  opens = s.opens;
  begins = s.begins;
  answered = s.answered;
  sends = subst (λ (ps : List Content). SendsNothing opening b ps
      ⊎ SendsPutOut (quoted_keys feed) opening b ps)
      (sym (of_session_both place b.name old more
      ∙ ap (λ (ps : List Content). packets_of_session place b.name old ++ ps) none
      ∙ append-nil (packets_of_session place b.name old))) s.sends;
}

later_stay : (feed : NormalisedFeed) (place : ℕ) (old more : List Sending) (opening : Opening)
    (bs : List Begun) → AllByRecursion (λ b. packets_of_session place b.name more ≡ []) bs
    → AllByRecursion (SendsSession feed place old opening) bs
    → AllByRecursion (SendsSession feed place (old ++ more) opening) bs
later_stay feed place old more opening [] none each = tt
later_stay feed place old more opening (b ∷ bs) none each = (
  session_stays feed place old more opening b none.0 each.0,
  later_stay feed place old more opening bs none.1 each.1,
)

earlier_stay : (feed : NormalisedFeed) (place : ℕ) (old more : List Sending) (first : Opening)
    (bs : List Begun) → AllByRecursion (λ b. packets_of_session place b.name more ≡ []) bs
    → AllBegun (SendsSession feed place old) first bs
    → AllBegun (SendsSession feed place (old ++ more)) first bs
earlier_stay feed place old more first [] none each = tt
earlier_stay feed place old more first (b ∷ bs) none each = (
  session_stays feed place old more first b none.0 each.0,
  later_stay feed place old more from_start bs none.1 each.1,
)

-- nothing of the venue is sent
sends_none : (feed : NormalisedFeed) (place : ℕ) (old more : List Sending) (h : NormalisedHistory)
    → ((name : List ℕ) → packets_of_session place name more ≡ [])
    → Sends feed place old h → Sends feed place (old ++ more) h
sends_none feed place old more h none s = record {
  first = s.first;
  begins_with = s.begins_with;
  earlier = earlier_stay feed place old more s.first h.history.earlier
      (each_none h.history.earlier) s.earlier;
  opening = s.opening;
  opens = s.opens;
  begins = s.begins;
  apart = s.apart;
  answered = s.answered;
  sent = subst (λ (ps : List Content). IsSent (quoted_keys feed) h ps)
      (sym (both h.history.present.name)) s.sent;
  carry = subst (λ (ps : List Content). Carry h.history.present.name h.output ps)
      (sym (both h.history.present.name)) s.carry;
  heartbeats = subst (λ (ps : List Content).
      AllByRecursion (BeatsWithin (last_put h.opening (inputs_of h))) ps)
      (sym (both h.history.present.name)) s.heartbeats;
  named = λ name other. both name ∙ s.named name other;
}
  where
    both : (name : List ℕ) → packets_of_session place name (old ++ more)
        ≡ packets_of_session place name old
    both name = of_session_both place name old more
        ∙ ap (λ (ps : List Content). packets_of_session place name old ++ ps) (none name)
        ∙ append-nil (packets_of_session place name old)

    each_none : (bs : List Begun)
        → AllByRecursion (λ b. packets_of_session place b.name more ≡ []) bs
    each_none [] = tt
    each_none (b ∷ bs) = (none b.name, each_none bs)

-- one input more, answered as it is to be
answered_more : (name : List ℕ) (window : ℕ) (before rest : List Input) (x : Input)
    → AreAnsweredAfter name window before rest → IsAnswered name window (before ++ rest) x
    → AreAnsweredAfter name window before (rest ++ x ∷ [])
answered_more name window before [] x a is =
    (subst (λ (z : List Input). IsAnswered name window z x) (append-nil before) is, tt)
answered_more name window before (y ∷ rest) x a is = (
  a.0,
  answered_more name window (before ++ y ∷ []) rest x a.1
      (subst (λ (z : List Input). IsAnswered name window z x)
      (sym (append_assoc before (y ∷ []) rest)) is),
)

carry_both : (name : List ℕ) (xs ys : List Numbered) (ps qs : List Content)
    → Carry name xs ps → Carry name ys qs → Carry name (xs ++ ys) (ps ++ qs)
carry_both name xs ys ps qs a b = record {
  each = all_append IsContent ps qs a.each b.each;
  session = all_append (λ (p : Content). p.session ≡ name) ps qs a.session b.session;
  carried = flat_map-append items_carried ps qs
      ∙ ap₂ (λ (u v : List Numbered). u ++ v) a.carried b.carried;
}

names_split : (h : History)
    → names_of h ≡ map (λ b. b.name) h.earlier ++ h.present.name ∷ []
names_split h = map-append (λ (b : Begun). b.name) h.earlier (h.present ∷ [])

present_named : (h : History) (other : List ℕ) → h.present.name ≡ other
    → Contains (names_of h) other
present_named h other e =
    subst (λ (ns : List (List ℕ)). Contains ns other) (sym (names_split h))
    (subst (λ (n : List ℕ). Contains (map (λ b. b.name) h.earlier ++ h.present.name ∷ []) n) e
    (Contains-push (map (λ (b : Begun). b.name) h.earlier) h.present.name))

-- a venue is its parts
same_venue : (a b : NormalisedHistory) → a.history ≡ b.history → a.opening ≡ b.opening
    → a.output ≡ b.output → a ≡ b
same_venue a b history opening output =
    ap (λ (h : History). record { history = h; opening = a.opening; output = a.output }) history
    ∙ ap₂ (λ (o : Opening) (out : List Numbered).
    record { history = b.history; opening = o; output = out }) opening output

-- more is put out, and sent
sends_more : (feed : NormalisedFeed) (time place : ℕ) (given : Input) (old : List Sending)
    (h after : NormalisedHistory) (text : List ℕ)
    → (p : PutsOutMore feed time place given h [] text after)
    → IsAnswered h.history.present.name feed.normaliser.window (inputs_of h) given
    → Sends feed place old h
    → Sends feed place (old ++ sent_at place time p.written.packets) after
sends_more feed time place given old h after text p is s =
    subst (λ (k : NormalisedHistory). Sends feed place (old ++ more) k)
    (sym same) (record {
      first = s.first;
      begins_with = s.begins_with;
      earlier = earlier_stay feed place old more s.first h.history.earlier
          (none_earlier h.history.earlier s.apart) s.earlier;
      opening = s.opening;
      opens = s.opens;
      begins = begins_more h.opening.number (inputs_of h) given s.begins;
      apart = s.apart;
      answered = answered_more name feed.normaliser.window [] (inputs_of h) given s.answered is;
      sent = inr (subst (λ (k : NormalisedHistory).
          IsPutOutFrom (quoted_keys feed) k.opening (inputs_of k) k.output)
          same p.put_out);
      carry = subst (λ (ps : List Content). Carry name (h.output ++ (p.carried ++ [])) ps)
          (sym sent_both)
          (subst (λ (o : List Numbered). Carry name (h.output ++ o)
          (packets_of_session place name old ++ packets)) (sym (append-nil p.carried))
          (carry_both name h.output p.carried (packets_of_session place name old) packets s.carry
          p.written.carry));
      heartbeats = subst (λ (ps : List Content). AllByRecursion (BeatsWithin last) ps)
          (sym sent_both)
          (all_append (BeatsWithin last) (packets_of_session place name old) packets
          (still_within h.opening (inputs_of h) given (packets_of_session place name old)
          s.heartbeats)
          (now_within last packets (subst (λ (k : NormalisedHistory).
          AllByRecursion (BeatsAt (last_put k.opening (inputs_of k))) packets)
          same p.written.heartbeats)));
      named = λ other n. of_session_both place other old more
          ∙ ap₂ (λ (a b : List Content). a ++ b) (s.named other (λ c. n (rename c)))
          (none_of place time name other packets p.written.carry.session
          (λ e. n (rename (present_named h.history other e))));
    })
  where
    name : List ℕ
    name = h.history.present.name

    packets : List Content
    packets = p.written.packets

    more : List Sending
    more = sent_at place time packets

    next : NormalisedHistory
    next = after_given h given (p.carried ++ [])

    same : after ≡ next
    same = same_venue after next p.history p.opening p.output

    last : ℕ
    last = last_put h.opening (inputs_of h ++ given ∷ [])

    sent_both : packets_of_session place name (old ++ more)
        ≡ packets_of_session place name old ++ packets
    sent_both = of_session_both place name old more
        ∙ ap (λ (ps : List Content). packets_of_session place name old ++ ps)
        (all_of place time name packets p.written.carry.session)

    rename : {other : List ℕ} → Contains (names_of h.history) other
        → Contains (names_of next.history) other
    rename {other = other} c =
        subst (λ (ns : List (List ℕ)). Contains ns other) (sym (same_names h.history given)) c

    none_earlier : (bs : List Begun) → AllByRecursion (λ b. name ≡ b.name → ⊥) bs
        → AllByRecursion (λ b. packets_of_session place b.name more ≡ []) bs
    none_earlier [] apart = tt
    none_earlier (b ∷ bs) apart = (
      none_of place time name b.name packets p.written.carry.session apart.0,
      none_earlier bs apart.1,
    )

-- ---- a record

-- a session more, of which nothing is sent
apart_from : (names : List (List ℕ)) (name : List ℕ) → (Contains names name → ⊥)
    → AllByRecursion (λ n. name ≡ n → ⊥) names
apart_from names name n = weaken names (recursion_from_All (Contains names) names
    (All-contains_itself names))
  where
    weaken : (xs : List (List ℕ)) → AllByRecursion (Contains names) xs
        → AllByRecursion (λ m. name ≡ m → ⊥) xs
    weaken [] each = tt
    weaken (x ∷ xs) each =
        ((λ e. n (subst (Contains names) (sym e) each.0)), weaken xs each.1)

apart_sessions : (bs : List Begun) (name : List ℕ)
    → AllByRecursion (λ n. name ≡ n → ⊥) (map (λ b. b.name) bs)
    → AllByRecursion (λ b. name ≡ b.name → ⊥) bs
apart_sessions [] name each = tt
apart_sessions (b ∷ bs) name each = (each.0, apart_sessions bs name each.1)

-- what is sent of a venue by a step, and of no other
record StepSends (feed : NormalisedFeed) (place : ℕ) (text : List ℕ) (old : List Sending)
    (after : NormalisedHistory) : Type 0 where
  more : List Sending
  text_is : text ≡ flat_map (sending_text feed.form) more
  sound : AllByRecursion IsSending more
  sends : Sends feed place (old ++ more) after
  others : (other : ℕ) → place ≢ other → (name : List ℕ)
      → packets_of_session other name more ≡ []

step_leaves : (feed : NormalisedFeed) (place : ℕ) (text : List ℕ) (old : List Sending)
    (h after : NormalisedHistory) → LeavesVenue h text after → Sends feed place old h
    → StepSends feed place text old after
step_leaves feed place text old h after l s = record {
  more = [];
  text_is = l.none;
  sound = tt;
  sends = subst (λ (k : NormalisedHistory). Sends feed place (old ++ []) k) (sym l.same)
      (subst (λ (o : List Sending). Sends feed place o h) (sym (append-nil old)) s);
  others = λ other n name. refl;
}

texts_of : (feed : NormalisedFeed) (time place : ℕ) (ps : List Content)
    → flat_map (datagram_text feed.form place time) (map spelling ps)
    ≡ flat_map (sending_text feed.form) (sent_at place time ps)
texts_of feed time place [] = refl
texts_of feed time place (p ∷ ps) =
    ap (λ (rest : List ℕ). datagram_text feed.form place time (spelling p) ++ rest)
    (texts_of feed time place ps)

sent_sound : (venue time : ℕ) (ps : List Content) → AllByRecursion IsContent ps
    → AllByRecursion IsSending (sent_at venue time ps)
sent_sound venue time [] each = tt
sent_sound venue time (p ∷ ps) each = (each.0, sent_sound venue time ps each.1)

step_more : (feed : NormalisedFeed) (time place : ℕ) (given : Input) (text : List ℕ)
    (old : List Sending) (h after : NormalisedHistory)
    → PutsOutMore feed time place given h [] text after
    → IsAnswered h.history.present.name feed.normaliser.window (inputs_of h) given
    → Sends feed place old h → StepSends feed place text old after
step_more feed time place given text old h after p is s = record {
  more = sent_at place time p.written.packets;
  text_is = p.text_is
      ∙ ap (flat_map (datagram_text feed.form place time)) p.written.spelled
      ∙ texts_of feed time place p.written.packets;
  sound = sent_sound place time p.written.packets p.written.carry.each;
  sends = sends_more feed time place given old h after text p is s;
  others = λ other n name. none_here other place time name p.written.packets n;
}

-- a packet with the end's number as the standard has it is one
read_content : (e : EndNumber) (p : Content) → IsContent p → IsContent (read_as e p)
read_content Next p c = c
read_content Last p c = by_test ((is_end p.kind) && nat_lt p.number 18446744073709551615) refl
  where
    moved : Content
    moved = record p { number = p.number + 1; ignored = 0 }

    no_messages : (k : Kind) (ms : List (List ℕ)) → is_end k ≡ true → KindFits k ms → ms ≡ []
    no_messages kinds.Messages ms e fits = absurd cc
    no_messages kinds.Heartbeat ms e fits = absurd cc
    no_messages kinds.End ms e fits = fits

    split : (a b : Bool) → (a && b) ≡ true → (a ≡ true) × (b ≡ true)
    split true true e = (refl, refl)
    split true false e = absurd cc
    split false b e = absurd cc

    by_test : (b : Bool) → (is_end p.kind && nat_lt p.number 18446744073709551615) ≡ b
        → IsContent (if b then moved else p)
    by_test false e = c
    by_test true e =
        let both = split (is_end p.kind) (nat_lt p.number 18446744073709551615) e in
        let none = no_messages p.kind p.messages both.0 c.fits in
        let less = less_of p.number both.1 in
        let len = ap length none in
        record {
          session = c.session;
          from_one = omega arith;
          small = omega (arith, less);
          in_range = omega (arith, less, len);
          fits = c.fits;
          each = c.each;
        }
      where
        less_of : (n : ℕ) → nat_lt n 18446744073709551615 ≡ true → n < 18446744073709551615
        less_of n e = ltb-true n 18446744073709551615 e

step_packet : (feed : NormalisedFeed) (time place : ℕ) (line : LineId) (bytes text : List ℕ)
    (old : List Sending) (h after : NormalisedHistory)
    → NormalisesPacket feed time place line bytes h [] text after → Sends feed place old h
    → StepSends feed place text old after
step_packet feed time place line bytes text old h after p s =
    step_more feed time place
    (arrival_of line (read_as feed.normaliser.end_number p.packet) p.answer) text old h after
    p.puts
    (record {
      content = read_content feed.normaliser.end_number p.packet p.spells.content;
      sent = p.sent;
      outcome = p.outcome;
    }) s

step_skip : (feed : NormalisedFeed) (time place number : ℕ) (text : List ℕ)
    (old : List Sending) (h after : NormalisedHistory)
    → NormalisesSkip feed time place number h [] text after → Sends feed place old h
    → StepSends feed place text old after
step_skip feed time place number text old h after p s = by_answer p.answer p.is p.does
  where
    by_answer : (a : Result (Unit {0}) SkipFault) → IsSkip (inputs_of h) p.sent number a
        → SkipsBy feed time place number h [] text after a → StepSends feed place text old after
    by_answer (Ok done) is does =
        step_more feed time place (Skip number) text old h after does is.1 s
    by_answer (Err fault) is does = step_leaves feed place text old h after does s

step_renewal : (feed : NormalisedFeed) (place : ℕ) (name text : List ℕ) (old : List Sending)
    (h after : NormalisedHistory) → NormalisesRenewal feed place name h text after
    → Sends feed place old h → StepSends feed place text old after
step_renewal feed place name text old h after p s = by_answer p.answer p.is p.does
  where
    more : List Sending
    more = record_sent (renewal_record place name) ∷ []

    next : NormalisedHistory
    next = after_begun h name

    begun : (Contains (names_of h.history) name → ⊥) → Sends feed place (old ++ more) next
    begun new =
        let same = sends_none feed place old more h (λ n. refl) s in
        record {
          first = same.first;
          begins_with = same.begins_with;
          earlier = sends_all same;
          opening = after_any same.first h.history.earlier h.history.present;
          opens = starts;
          begins = begins_any [];
          apart = apart_sessions (all_begun h.history) name
              (apart_from (names_of h.history) name new);
          answered = tt;
          sent = inl (refl, refl, same.named name new);
          carry = subst (λ (ps : List Content). Carry name [] ps) (sym (same.named name new))
              (record { each = tt; session = tt; carried = refl });
          heartbeats = subst (λ (ps : List Content).
              AllByRecursion (BeatsWithin (last_put from_start [])) ps)
              (sym (same.named name new)) tt;
          named = λ other n. same.named other (λ c. n (longer other c));
        }
      where
        after_any : (first : Opening) (bs : List Begun) (b : Begun)
            → from_start ≡ opening_after first (bs ++ b ∷ [])
        after_any first [] b = refl
        after_any first (c ∷ bs) b = refl

        longer : (other : List ℕ) → Contains (names_of h.history) other
            → Contains (names_of next.history) other
        longer other c = subst (λ (ns : List (List ℕ)). Contains ns other)
            (sym (map-append (λ (b : Begun). b.name) (all_begun h.history)
            (new_session name ∷ [])))
            (Contains-append_left (names_of h.history) (name ∷ []) other c)

    by_answer : (a : Result ℕ RenewFault)
        → IsRenewal (names_of h.history) (end_of (inputs_of h)) p.sent name a
        → RenewsBy feed place name h text after a → StepSends feed place text old after
    by_answer (Ok ordinal) is does = record {
      more = more;
      sound = (tt, tt);
      text_is = does.text_is ∙ sym (append-nil (record_text feed.form (renewal_record place name)));
      sends = subst (λ (k : NormalisedHistory). Sends feed place (old ++ more) k)
          (sym (same_venue after next does.history does.opening does.output)) (begun is.1);
      others = λ other n which. refl;
    }
    by_answer (Err fault) is does = step_leaves feed place text old h after does s

step_passes : (feed : NormalisedFeed) (place : ℕ) (r : CaptureRecord) (text : List ℕ)
    (old : List Sending) (h after : NormalisedHistory) → HoldsNoPacket r
    → PassesOn feed r h text after
    → Sends feed place old h → StepSends feed place text old after
step_passes feed place r text old h after none p s = record {
  more = record_sent r ∷ [];
  sound = (none, tt);
  text_is = p.text_is ∙ sym (append-nil (record_text feed.form r));
  sends = subst (λ (k : NormalisedHistory). Sends feed place (old ++ record_sent r ∷ []) k)
      (sym p.same) (sends_none feed place old (record_sent r ∷ []) h (λ n. refl) s);
  others = λ other n which. refl;
}

step_at : (feed : NormalisedFeed) (time : ℕ) (r : CaptureRecord) (text : List ℕ)
    (old : List Sending) (h after : NormalisedHistory)
    → NormalisesAt feed time r h [] text after → Sends feed (record_venue r) old h
    → StepSends feed (record_venue r) text old after
step_at feed time (datagram_record venue line bytes) text old h after (inl none) s =
    step_leaves feed venue text old h after none.leaves s
step_at feed time (datagram_record venue line bytes) text old h after (inr p) s =
    step_packet feed time venue line bytes text old h after p s
step_at feed time (skip_record venue number) text old h after p s =
    step_skip feed time venue number text old h after p s
step_at feed time (renewal_record venue name) text old h after p s =
    step_renewal feed venue name text old h after p s
step_at feed time (self_help_record venue on) text old h after p s =
    step_passes feed venue (self_help_record venue on) text old h after tt p s

-- ---- all venues

abbrev SendAll : NormalisedFeed → List Sending → NormalisedPoint → Type 0
SendAll feed sendings at =
    (place : ℕ) (h : NormalisedHistory) → slice_get at.venues place ≡ Some h
    → Sends feed place sendings h

record RecordSends (feed : NormalisedFeed) (text : List ℕ) (old : List Sending)
    (new : NormalisedPoint) : Type 0 where
  more : List Sending
  text_is : text ≡ flat_map (sending_text feed.form) more
  sound : AllByRecursion IsSending more
  all : SendAll feed (old ++ more) new

record_sends : (feed : NormalisedFeed) (t : TimedRecord) (at new : NormalisedPoint)
    (text : List ℕ) (old : List Sending) → NormalisesRecord feed t at [] text new
    → SendAll feed old at → RecordSends feed text old new
record_sends feed t at new text old n all = record {
  more = step.more;
  text_is = step.text_is;
  sound = step.sound;
  all = λ q h there. by_place q h (same_or_not q place)
      (subst (λ (hs : List NormalisedHistory). slice_get hs q ≡ Some h) n.venues there);
}
  where
    place : ℕ
    place = record_venue t.what

    step : StepSends feed place text old n.after
    step = step_at feed (time_after at.latest t.time) t.what text old n.before n.after n.normalises
        (all place n.before n.at)

    by_place : (q : ℕ) (h : NormalisedHistory) → (q ≡ place) ⊎ (q ≢ place)
        → slice_get (slice_set at.venues place n.after) q ≡ Some h
        → Sends feed q (old ++ step.more) h
    by_place q h (inl same) there =
        let here : h ≡ n.after = get_set_same at.venues place n.after h
        (subst (λ (k : ℕ). slice_get (slice_set at.venues place n.after) k ≡ Some h) same there) in
        rw (same, here) step.sends
    by_place q h (inr other) there =
        sends_none feed q old step.more h
        (λ name. step.others q (λ e. other (sym e)) name)
        (all q h (sym (get_set_other at.venues place q n.after other) ∙ there))

all_sends : (feed : NormalisedFeed) (records : List TimedRecord) (at new : NormalisedPoint)
    (taken : List TimedRecord) (text : List ℕ) (left : List TimedRecord) (old : List Sending)
    → NormalisesAll feed records at taken text left new → SendAll feed old at
    → RecordSends feed text old new
all_sends feed records at new [] text left old (same, none, stays) all = record {
  more = [];
  text_is = none;
  sound = tt;
  all = subst (λ (o : List Sending). SendAll feed o new) (sym (append-nil old))
      (subst (λ (p : NormalisedPoint). SendAll feed old p) (sym stays) all);
}
all_sends feed records at new (t ∷ ts) text left old
    (others, mid, first, later, next, record_is, rest, is) all =
    let a = record_sends feed t at mid first old record_is all in
    let b = all_sends feed others mid new ts later left (old ++ a.more) rest a.all in
    record {
      more = a.more ++ b.more;
      sound = all_append IsSending a.more b.more a.sound b.sound;
      text_is = is ∙ ap₂ (λ (x y : List ℕ). x ++ y) a.text_is b.text_is
          ∙ sym (flat_map-append (sending_text feed.form) a.more b.more);
      all = subst (λ (o : List Sending). SendAll feed o new) (append_assoc old a.more b.more)
          b.all;
    }

-- what came first of a session that began so is answered as it is to be
opened_answered : (name : List ℕ) (window n : ℕ) → AreAnswered name window (opened_at n)
opened_answered name window n = elim (cases_lt 1 n) [
  | inl lt ↦ subst (λ (xs : List Input). AreAnswered name window xs) (sym (opened_later n lt))
      (may_open n lt, tt)
  | inr few ↦ subst (λ (xs : List Input). AreAnswered name window xs) (sym (opened_first n few)) tt
]

opens_with : (keys : List ℕ) (snapshot : Option SnapshotContent) (opening : Opening)
    → BeginsWith keys snapshot opening → IsOpening opening
opens_with keys None opening is = subst IsOpening (sym is) starts
opens_with keys (Some held) opening (shown, are, places, is) = subst IsOpening (sym is) (record {
  messages = shown_messages keys held.messages shown are;
  places = places;
})

new_sends : (feed : NormalisedFeed) (at : NormalisedPoint) → IsNewPoint feed at
    → SendAll feed [] at
new_sends feed at new place h there =
    let n = new.each place h there in
    let name : List ℕ = slice_index_or feed.sessions.now place [] in
    subst (λ (k : NormalisedHistory). Sends feed place [] k) (sym n.is) (record {
      first = n.opening;
      begins_with = n.begins;
      earlier = tt;
      opening = refl;
      opens = opens_with (quoted_keys feed) (snapshot_at feed.snapshots.now place) n.opening
          n.begins;
      begins = begins_opened n.opening.number;
      apart = tt;
      answered = opened_answered name feed.normaliser.window n.opening.number;
      sent = inl (refl, refl, refl);
      carry = record { each = tt; session = tt; carried = refl };
      heartbeats = tt;
      named = λ name n. refl;
    })

-- what a run writes of each session of each venue
pub run_sends : (feed : NormalisedFeed) (records taken left : List TimedRecord)
    (text : List ℕ) (first after : NormalisedPoint) → IsNewPoint feed first
    → NormalisesAll feed records first taken text left after
    → SendsSessions feed after text
run_sends feed records taken left text first after new n =
    let r = all_sends feed records first after taken text left [] n
    (new_sends feed first new) in
    record {
      sendings = r.more;
      text_is = r.text_is;
      sound = r.sound;
      each = λ place h there.
          let s = r.all place h there in
          record { first = s.first; begins = s.begins_with; each = sends_all s };
    }
