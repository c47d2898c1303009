-- One more record, and the venue that it is of goes on.
use Rattle.std.proofs.Common.{◌≡◌, ℕ, zero, suc, ◌+◌, ◌<◌, ◌≤◌, List, [], ◌∷◌, ◌++◌, length, map, take, drop, get_or, length-append, Some, refl, sym, ap, subst, ◌∙◌, append_assoc, append-nil, arith, inl, inr}
use Rattle.std.specs.Prelude.{◌⊎◌, Bool, Result, slice_get, slice_set}
use Rattle.std.proofs.lemmas.Result.{on_ok_weaker}
use Rattle.std.proofs.Math.ListN.{length-set, drop_of_length-le}
use Rattle.std.proofs.lemmas.List.{length-map, map-append, take_more}
use Rattle.std.proofs.lemmas.Grind.{common_steps}
use Rattle.std.proofs.lemmas.Option.{slice_get_within}
use Rattle.capture_records.specs.Capture.{CaptureRecord, self_help_record, record_venue}
use Rattle.line_arbiter.specs.Histories.{History, new_history}
use Rattle.feed_text.specs.declared.replay_sink.PublishStop.{PublishStop}
use Rattle.feed_text.specs.Tellings.{last_told, lasts_told}
use Rattle.feed_text.specs.ReplayStates.{SinkTaking, ReplayState, EmitsInto}
use Rattle.feed_text.specs.ReplayEvents.{self_help_declared}
use Rattle.feed_text.specs.Following.{ReplayVenue, VenueList, Follows, FollowAll, EmitsNext, EmitsOne, TakesRecord}
use Rattle.feed_types.specs.ListLaws.{get_within, get_set_same, get_set_other, same_or_not, same_set}
use Rattle.event_sinks.specs.declared.venue_gap.VenueGap.{VenueGap}
use Rattle.feed_text.specs.Lacks.{lack_of, lacks_of}
use Rattle.feed_text.proofs.VenueSteps.{on_ok}
use Rattle.feed_text.proofs.Rest.{rest_at}

-- one venue and its history go on
pub follow_set : (window i : ℕ) (vs : List ReplayVenue) (hs : List History) (v : ReplayVenue)
    (h : History) → FollowAll window vs hs → Follows window i v h
    → FollowAll window (slice_set vs i v) (slice_set hs i h)
follow_set window i vs hs v h f now = record {
  count = length-set vs i v ∙ f.count ∙ sym (length-set hs i h);
  each = λ j w k e g. elim (same_or_not j i) [
    | inl same ↦
        let a : w ≡ v = get_set_same vs i v w
        (subst (λ (n : ℕ). slice_get (slice_set vs i v) n ≡ Some w) same e) in
        let b : k ≡ h = get_set_same hs i h k
        (subst (λ (n : ℕ). slice_get (slice_set hs i h) n ≡ Some k) same g) in
        rw (same, a, b) now
    | inr other ↦ f.each j w k (sym (get_set_other vs i j v other) ∙ e)
        (sym (get_set_other hs i j h other) ∙ g)
  ];
}

-- a list as long as one that has a place has it too
pub history_at : (window : ℕ) (vs : List ReplayVenue) (hs : List History) (i : ℕ) (v : ReplayVenue)
    → FollowAll window vs hs → slice_get vs i ≡ Some v → (h : History)
    × (slice_get hs i ≡ Some h) × Follows window i v h
history_at window vs hs i v f at =
    let within = slice_get_within vs i v at in
    let n = f.count in
    let h = get_within hs i (omega arith) in
    (h.0, h.1, f.each i v h.0 at h.1)

-- the events of one record at its venue are those of the record
pub emits_next : {K : Type 0} {taking : SinkTaking K} → (window : ℕ) (gaps : Bool)
    (vs : List ReplayVenue) (hs : List History) (r : CaptureRecord) (w : ReplayVenue) (h : History)
    (old new : ReplayState K) (done : Result (Unit {0}) PublishStop)
    → FollowAll window vs hs → slice_get hs (record_venue r) ≡ Some h
    → EmitsOne taking window gaps r h old new w done
    → EmitsNext taking window gaps r hs old new (slice_set vs (record_venue r) w) done
emits_next window gaps vs hs r w h old new done f at one = record {
  emitted = one.emitted;
  after = slice_set hs (record_venue r) one.after;
  record_tells = record {
    before = h;
    after = one.after;
    at = at;
    emits = one.at;
    others = refl;
  };
  emits = one.emits;
  follow = on_ok_weaker done (λ g. follow_set window (record_venue r) vs hs w one.after f g)
      one.follows;
}

-- one record
pub takes_one : {K : Type 0} {taking : SinkTaking K} → (from to : VenueList) (r : CaptureRecord)
    (old new : ReplayState K) (done : Result (Unit {0}) PublishStop) (v w : ReplayVenue)
    → slice_get from.items (record_venue r) ≡ Some v
    → to.items ≡ slice_set from.items (record_venue r) w → to.gaps ≡ from.gaps
    → ((width : ℕ) (h : History) → Follows width (record_venue r) v h → EmitsOne taking width
    from.gaps r h old new w done) → TakesRecord taking from r old new to done
takes_one {K} {taking} from to r old new done v w at set gaps step = record {
  gaps = on_ok done gaps;
  count = on_ok done (ap length set ∙ length-set from.items (record_venue r) w);
  emitted = λ window hs f.
      let h = history_at window from.items hs (record_venue r) v f at in
      subst (λ (ws : List ReplayVenue). EmitsNext taking window from.gaps r hs old new ws done)
      (sym set) (emits_next window from.gaps from.items hs r w h.0 old new done f h.1
      (step window h.0 h.2));
}

-- a declaration: the venues and what came to them stay
pub takes_self_help : {K : Type 0} {taking : SinkTaking K}
    → (at : VenueList) (venue : ℕ) (on : Bool) (old new : ReplayState K) (done : Result (Unit {0})
    PublishStop) → venue < length at.items
    → EmitsInto taking old (self_help_declared venue on ∷ []) new done
    → TakesRecord taking at (self_help_record venue on) old new at done
takes_self_help {K} {taking} at venue on old new done within emits = record {
  gaps = on_ok done refl;
  count = on_ok done refl;
  emitted = λ window hs f.
      let h = get_within hs venue (rw (← f.count) within) in
      record {
        emitted = self_help_declared venue on ∷ [];
        after = hs;
        record_tells = record {
          before = h.0;
          after = h.0;
          at = h.1;
          emits = record {
            same = refl;
            emitted_is = refl;
          };
          others = sym (same_set hs venue h.0 h.1);
        };
        emits = emits;
        follow = on_ok done f;
      };
}

slice_get_push : {X : Type 0} (xs : List X) (y : X) (i : ℕ) (x : X)
    → slice_get (xs ++ y ∷ []) i ≡ Some x → (slice_get xs i ≡ Some x) ⊎ ((i ≡ length xs) × (x ≡ y))
slice_get_push [] y zero x e = inr (refl, cc)
slice_get_push [] y (suc i) x e = absurd cc
slice_get_push (z ∷ xs) y zero x e = inl e
slice_get_push (z ∷ xs) y (suc i) x e = elim (slice_get_push xs y i x e) [
  | inl a ↦ inl a
  | inr b ↦
      inr (ap suc b.0, b.1)
]

follow_push : (window : ℕ) (vs : List ReplayVenue) (hs : List History) (v : ReplayVenue)
    (h : History) → FollowAll window vs hs → Follows window (length hs) v h
    → FollowAll window (vs ++ v ∷ []) (hs ++ h ∷ [])
follow_push window vs hs v h f now = record {
  count = length-append vs (v ∷ []) ∙ ap (λ (n : ℕ). n + 1) f.count
      ∙ sym (length-append hs (h ∷ []));
  each = λ i w k e g. elim (slice_get_push vs v i w e) [
    | inl a ↦ elim (slice_get_push hs h i k g) [
      | inl b ↦ f.each i w k a b
      | inr b ↦ let past = slice_get_within vs i w a in let n = f.count
          in absurd (omega (arith, b.0))
    ]
    | inr a ↦ elim (slice_get_push hs h i k g) [
      | inl b ↦ let past = slice_get_within hs i k b in let n = f.count
          in absurd (omega (arith, a.0))
      | inr b ↦ rw (b.0, a.1, b.1) now
    ]
  ];
}

-- one more venue, to which nothing came
pub follow_next : (window : ℕ) (vs : List ReplayVenue) (sessions : List (List ℕ)) (i : ℕ)
    (v : ReplayVenue) → FollowAll window vs (map new_history (take i sessions))
    → i < length sessions → Follows window i v (new_history (get_or sessions i []))
    → FollowAll window (vs ++ v ∷ []) (map new_history (take (i + 1) sessions))
follow_next window vs sessions i v f h now =
    let hs : List History = map new_history (take i sessions) in
    let len : length hs ≡ i = length-map (take i sessions) new_history ∙ length-take_le i sessions h
    in
    let more : map new_history (take (i + 1) sessions) ≡ hs ++ new_history (get_or sessions i [])
    ∷ [] = rw (take_more sessions i [] h) (map-append new_history (take i sessions)
    (get_or sessions i [] ∷ [])) in
    rw more (follow_push window vs hs v (new_history (get_or sessions i [])) f (rw len now))
  where
    length-take_le : (n : ℕ) (xs : List (List ℕ)) → n < length xs → length (take n xs) ≡ n
    length-take_le n xs h = grind (arith, common_steps)

-- one more last event
pub lasts_rest : (hs : List History) (i : ℕ) (h : History) → slice_get hs i ≡ Some h
    → lasts_told i (drop i hs) ≡ last_told i h ∷ lasts_told (i + 1) (drop (i + 1) hs)
lasts_rest hs i h at = ap (lasts_told i) (rest_at hs i h (sym at))

-- and then there is none
pub lasts_done : (hs : List History) (i : ℕ) → length hs ≤ i → lasts_told i (drop i hs) ≡ []
lasts_done hs i h = ap (lasts_told i) (drop_of_length-le hs h)

-- what one more venue lacks
pub lacks_more : (window : ℕ) (hs : List History) (i : ℕ) (h : History) (old new all : List
    VenueGap)
    → slice_get hs i ≡ Some h → new ≡ old ++ lack_of window i h → old
    ++ lacks_of window i (drop i hs) ≡ all → new ++ lacks_of window (i + 1) (drop (i + 1) hs) ≡ all
lacks_more window hs i h old new all at put is =
    let L = lacks_of window (i + 1) (drop (i + 1) hs) in
    ap (λ (t : List VenueGap). t ++ L) put ∙ append_assoc old (lack_of window i h) L
    ∙ ap (λ (t : List VenueGap). old ++ t) (sym (ap (lacks_of window i) (rest_at hs i h (sym
    at))))
    ∙ is

pub lacks_done : (window : ℕ) (hs : List History) (i : ℕ) (lacks all : List VenueGap)
    → length hs ≤ i
    → lacks ++ lacks_of window i (drop i hs) ≡ all → lacks ≡ all
lacks_done window hs i lacks all h is = sym (append-nil lacks)
    ∙ ap (λ (t : List VenueGap). lacks ++ t) (sym (ap (lacks_of window i) (drop_of_length-le hs
    h)))
    ∙ is
