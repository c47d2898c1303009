-- Of records one list of events is told.
use Rattle.std.proofs.Common.{◌≡◌, ◌<◌, ◌≤◌, append_assoc, length, ℕ, Bool, List, [], ◌∷◌, ◌++◌, map, Some, refl, sym, ap, subst, ◌∙◌, arith, inl, inr}
use Rattle.std.specs.Prelude.{Result, None, slice_set}
use Rattle.feed_types.specs.declared.line.LineId.{LineId}
use Rattle.mold_packet.specs.declared.fault.PacketFault.{PacketFault}
use Rattle.mold_packet.specs.Content.{Content, Spells}
use Rattle.mold_packet.specs.Faults.{HasFault}
use Rattle.line_arbiter.specs.declared.outcome.Outcome.{Outcome}
use Rattle.line_arbiter.specs.declared.outcome.LineFault.{LineFault}
use Rattle.line_arbiter.specs.declared.faults.RenewFault.{RenewFault}
use Rattle.line_arbiter.specs.declared.faults.SkipFault.{SkipFault}
use Rattle.line_arbiter.specs.Packets.{Input, arrival_of}
use Rattle.line_arbiter.specs.Outcomes.{IsOutcome}
use Rattle.line_arbiter.specs.laws.OneOutcome.{one_renewal}
use Rattle.line_arbiter.specs.laws.SkipAnswers.{one_skip}
use Rattle.feed_types.specs.declared.journal.Entry.{Entry}
use Rattle.feed_text.specs.laws.Entries.{entries_more, entries_grow}
use Rattle.feed_text.specs.Rules.{AreTakenOf, IsTakenNext, ReplayPoint, new_point, point_after}
use Rattle.feed_text.proofs.OnePutIn.{one_put}
use Rattle.line_arbiter.specs.Histories.{History, names_of, after_input, history_after, skip_after}
use Rattle.feed_text.specs.declared.replay.ReplayConfig.{ReplayConfig}
use Rattle.capture_records.specs.Capture.{CaptureRecord, datagram_record, renewal_record, skip_record, self_help_record, record_venue}
use Rattle.feed_text.specs.ReplayEvents.{ReplayEvent, packet_answered, packet_refused, renewal_answered, skip_answered, entries_after, entries_of}
use Rattle.line_arbiter.specs.LastSent.{last_sent}
use Rattle.feed_text.specs.Emitted.{gap_emitted, items_emitted, EmitsFault, EmitsPacket, EmitsAt, EmitsRecord, Emits}
use Rattle.capture_records.specs.Formats.{TimedRecord, timed_record, what_of}
use Rattle.event_sinks.specs.SinkEvents.{TimedEvent, at_time}
use Rattle.feed_text.specs.Tellings.{lasts_told, told_of}
use Rattle.feed_text.specs.Texts.{new_histories, EmitsAll, HasJournalRoom}
use Rattle.feed_text.specs.Told.{told_by_records, point_told, IsToldUpTo, IsToldOf, IsToldOfAll, IsToldToFull}

-- the laws of packets and of their answers
pub record Single : Type 0 where
  pub packet : (bytes : List ℕ) (p q : Content) (rest more : List ℕ) → Spells bytes p rest
      → Spells bytes q more → p ≡ q
  pub no_fault : (bytes : List ℕ) (p : Content) (rest : List ℕ) (fault : PacketFault)
      → Spells bytes p rest → HasFault bytes fault → ⊥
  pub fault : (bytes : List ℕ) (f g : PacketFault) → HasFault bytes f → HasFault bytes g → f ≡ g
  pub outcome : (session : List ℕ) (window sent : ℕ) (P : List Input) (p : Content)
      (a b : Result Outcome LineFault) → IsOutcome session window sent P p a
      → IsOutcome session window sent P p b → a ≡ b

one_fault : (window : ℕ) (gaps : Bool) (venue : ℕ) (line : LineId) (bytes : List ℕ)
    (old n1 n2 : History) (l1 l2 : List ReplayEvent) → Single
    → EmitsFault window gaps venue line bytes old l1 n1 → EmitsFault window gaps venue line bytes
    old l2 n2 → (l1 ≡ l2) × (n1 ≡ n2)
one_fault window gaps venue line bytes old n1 n2 l1 l2 one a b =
    let F : PacketFault → History → List ReplayEvent = λ f h. packet_refused venue line f
    ∷ gap_emitted window gaps venue h in
    let f = one.fault bytes a.fault b.fault a.has b.has in
    let n : n1 ≡ n2 = a.same ∙ sym b.same in (
      a.emitted_is ∙ ap (λ (x : PacketFault). F x n1) f ∙ ap (λ (h : History). F b.fault h)
          n ∙ sym b.emitted_is,
      n,
    )

one_packet : (window : ℕ) (gaps : Bool) (venue : ℕ) (line : LineId) (bytes : List ℕ)
    (old n1 n2 : History) (l1 l2 : List ReplayEvent) → Single
    → EmitsPacket window gaps venue line bytes old l1 n1 → EmitsPacket window gaps venue line bytes
    old l2 n2 → (l1 ≡ l2) × (n1 ≡ n2)
one_packet window gaps venue line bytes old n1 n2 l1 l2 one a b =
    let G : Content → Result Outcome LineFault
    → History = λ p x. after_input old (arrival_of line p x) in
    let F : Content → Result Outcome LineFault → History
    → List ReplayEvent = λ q x h. packet_answered venue line q.number (length q.messages)
    (length bytes) x ∷ items_emitted venue old h.present.packets
    ++ gap_emitted window gaps venue h in
    let p : a.packet ≡ b.packet = one.packet bytes a.packet b.packet a.rest b.rest a.spells b.spells
    in
    let first : IsOutcome old.present.name window (last_sent old) old.present.packets b.packet
    a.answer = subst (λ (q : Content). IsOutcome old.present.name window (last_sent old)
    old.present.packets q a.answer) p a.taken.right in
    let x : a.answer ≡ b.answer = one.outcome old.present.name window (last_sent old)
    old.present.packets b.packet a.answer b.answer first b.taken.right in
    let n : n1 ≡ n2 = a.taken.is ∙ ap (λ (q : Content). G q a.answer) p
    ∙ ap (λ (y : Result Outcome LineFault). G b.packet y) x ∙ sym b.taken.is in (
      a.emitted_is ∙ ap (λ (q : Content). F q a.answer n1) p
          ∙ ap (λ (y : Result Outcome LineFault). F b.packet y n1) x
          ∙ ap (λ (h : History). F b.packet b.answer h) n ∙ sym b.emitted_is,
      n,
    )

one_at : (window : ℕ) (gaps : Bool) (r : CaptureRecord) (old n1 n2 : History)
    (l1 l2 : List ReplayEvent) → Single → EmitsAt window gaps r old l1 n1
    → EmitsAt window gaps r old l2 n2 → (l1 ≡ l2) × (n1 ≡ n2)
one_at window gaps (datagram_record venue line bytes) old n1 n2 l1 l2 one (inl a) (inl b) =
    one_fault window gaps venue line bytes old n1 n2 l1 l2 one a b
one_at window gaps (datagram_record venue line bytes) old n1 n2 l1 l2 one (inl a) (inr b) =
    absurd (one.no_fault bytes b.packet b.rest a.fault b.spells a.has)
one_at window gaps (datagram_record venue line bytes) old n1 n2 l1 l2 one (inr a) (inl b) =
    absurd (one.no_fault bytes a.packet a.rest b.fault a.spells b.has)
one_at window gaps (datagram_record venue line bytes) old n1 n2 l1 l2 one (inr a) (inr b) =
    one_packet window gaps venue line bytes old n1 n2 l1 l2 one a b
one_at window gaps (renewal_record venue name) old n1 n2 l1 l2 one a b =
    let x = one_renewal (names_of old) _ (last_sent old) name a.answer b.answer
    a.renewed.right b.renewed.right in (
      a.emitted_is ∙ ap (λ (y : Result ℕ RenewFault). renewal_answered venue y ∷ []) x
          ∙ sym b.emitted_is,
      a.renewed.is ∙ ap (history_after old name) x ∙ sym b.renewed.is,
    )
one_at window gaps (skip_record venue number) old n1 n2 l1 l2 one a b =
    let F : Result (Unit {0}) SkipFault → History → List ReplayEvent = λ y h. skip_answered venue
    number y ∷ items_emitted venue old h.present.packets in
    let x = one_skip old.present.packets (last_sent old) number a.answer b.answer
    a.skipped.right b.skipped.right in
    let n : n1 ≡ n2 = a.skipped.is ∙ ap (skip_after old number) x ∙ sym b.skipped.is in (
      a.emitted_is ∙ ap (λ (y : Result (Unit {0}) SkipFault). F y n1) x
          ∙ ap (λ (h : History). F b.answer h) n ∙ sym b.emitted_is,
      n,
    )
one_at window gaps (self_help_record venue on) old n1 n2 l1 l2 one a b =
    (a.emitted_is ∙ sym b.emitted_is, a.same ∙ sym b.same)

one_record : (window : ℕ) (gaps : Bool) (r : CaptureRecord) (old n1 n2 : List History)
    (l1 l2 : List ReplayEvent) → Single → EmitsRecord window gaps r old l1 n1
    → EmitsRecord window gaps r old l2 n2 → (l1 ≡ l2) × (n1 ≡ n2)
one_record window gaps r old n1 n2 l1 l2 one a b =
    let some : Some a.before ≡ Some b.before = sym a.at ∙ b.at in
    let same : a.before ≡ b.before = cc in
    let x = one_at window gaps r b.before a.after b.after l1 l2 one
    (subst (λ (h : History). EmitsAt window gaps r h l1 a.after) same a.emits) b.emits in
    (x.0, a.others ∙ ap (slice_set old (record_venue r)) x.1 ∙ sym b.others)

pub one_told : (window : ℕ) (gaps : Bool) (rs : List CaptureRecord) (old n1 n2 : List History)
    (l1 l2 : List ReplayEvent) → Single → Emits window gaps rs old l1 n1
    → Emits window gaps rs old l2 n2 → (l1 ≡ l2) × (n1 ≡ n2)
one_told window gaps [] old n1 n2 l1 l2 one a b = (a.0 ∙ sym b.0, a.1 ∙ sym b.1)
one_told window gaps (r ∷ rs) old n1 n2 l1 l2 one (m, first, others, record_is, more, whole)
    (k, head, tail, is, rest, all) =
    let x = one_record window gaps r old m k first head one record_is is in
    let y = one_told window gaps rs k n1 n2 others tail one
    (subst (λ (h : List History). Emits window gaps rs h others n1) x.1 more) rest in (
      whole ∙ ap (λ (t : List ReplayEvent). t ++ others) x.0 ∙ ap (λ (t : List ReplayEvent). head
          ++ t) y.0 ∙ sym all,
      y.1,
    )

-- of these records one is taken next
one_next : (config : ReplayConfig) (at : ReplayPoint) (rs : List TimedRecord) (t u : TimedRecord)
    (left others : List TimedRecord) → Single → IsTakenNext config at rs t left
    → IsTakenNext config at rs u others → (t ≡ u) × (left ≡ others)
one_next config at [] t u left others one x y = absurd x
one_next config at (r ∷ rs) t u left others one (inl x) (inl y) = (
  x.0.2 ∙ ap (λ (k : CaptureRecord). timed_record k r.time) (one_put config at r x.0.0 y.0.0
      one.packet x.0.1 y.0.1) ∙ sym y.0.2,
  x.1 ∙ sym y.1,
)
one_next config at (r ∷ rs) t u left others one (inl x) (inr y) = absurd (y.0 x.0.0 x.0.1)
one_next config at (r ∷ rs) t u left others one (inr x) (inl y) = absurd (x.0 y.0.0 y.0.1)
one_next config at (r ∷ rs) t u left others one (inr x) (inr y) = (x.1 ∙ sym y.1, x.2 ∙ sym y.2)

-- the points after the same record with the same histories
same_point : (config : ReplayConfig) (old : ReplayPoint) (t u : TimedRecord)
    (mid between : List History) → t ≡ u → mid ≡ between
    → point_after config old t mid ≡ point_after config old u between
same_point config old t u mid between record_is same =
    ap (λ (r : TimedRecord). point_after config old r mid) record_is
    ∙ ap (point_after config old u) same

-- so all that is taken of records is one list
one_taken : (config : ReplayConfig) (rs ts us : List TimedRecord) (old n1 n2 : ReplayPoint)
    → Single → AreTakenOf config rs old ts [] n1 → AreTakenOf config rs old us [] n2 → ts ≡ us
one_taken config rs [] [] old n1 n2 one x y = refl
one_taken config rs [] (u ∷ us) old n1 n2 one x (others, emitted, mid, next, tells, rest) =
    absurd (subst (λ (l : List TimedRecord). IsTakenNext config old l u others) (sym x.0) next)
one_taken config rs (t ∷ ts) [] old n1 n2 one (others, emitted, mid, next, tells, rest) y =
    absurd (subst (λ (l : List TimedRecord). IsTakenNext config old l t others) (sym y.0) next)
one_taken config rs (t ∷ ts) (u ∷ us) old n1 n2 one (others, emitted, mid, next, tells, rest)
    (ends, told, between, is, here, more) =
    let n = one_next config old rs t u others ends one next is in
    let r = one_record config.window config.gaps u.what old.histories mid between emitted told one
    (subst (λ (k : TimedRecord). EmitsRecord config.window config.gaps k.what old.histories emitted
    mid) n.0 tells) here in
    let mid_point : ReplayPoint = point_after config old u between in
    let tail : AreTakenOf config ends mid_point ts [] n1 =
    subst (λ (l : List TimedRecord). AreTakenOf config l mid_point ts [] n1) n.1
    (subst (λ (p : ReplayPoint). AreTakenOf config others p ts [] n1)
    (same_point config old t u mid between n.0 r.1) rest) in
    let same = one_taken config ends ts us mid_point n1 n2 one tail more in
    ap (λ (k : TimedRecord). k ∷ ts) n.0 ∙ ap (λ (l : List TimedRecord). u ∷ l) same

-- what is told of records that emit the same
one_by : (config : ReplayConfig) (rs : List TimedRecord) (old now : List History)
    (es fs : List Entry) (x y : List ReplayEvent) (n1 n2 : List History)
    → Single → old ≡ now → es ≡ fs
    → (a : Emits config.window config.gaps (map what_of rs) old x n1)
    → (b : Emits config.window config.gaps (map what_of rs) now y n2)
    → told_by_records config rs old es x n1 a ≡ told_by_records config rs now fs y n2 b
one_by config [] old now es fs x y n1 n2 one same equal a b = refl
one_by config (r ∷ rs) old now es fs x y n1 n2 one same equal (m, first, others, is, more, whole)
    (k, head, tail, at, rest, all) =
    let c = one_record config.window config.gaps r.what now m k first head one
    (subst (λ (hs : List History). EmitsRecord config.window config.gaps r.what hs first m) same
    is) at in
    let entries : entries_of es first ≡ entries_of fs head =
    ap (λ (l : List Entry). entries_of l first) equal ∙ ap (entries_of fs) c.0 in
    let tails = one_by config rs m k (entries_of es first) (entries_of fs head) others tail n1 n2
    one c.1 entries more rest in
    ap (λ (l : List Entry). at_time r.time (told_of config.symbols.now l first)
    ++ told_by_records config rs m (entries_of es first) others n1 more) equal
    ∙ ap (λ (l : List ReplayEvent). at_time r.time (told_of config.symbols.now fs l)
    ++ told_by_records config rs m (entries_of es first) others n1 more) c.0
    ∙ ap (λ (l : List TimedEvent). at_time r.time (told_of config.symbols.now fs head) ++ l) tails

one_first : (config : ReplayConfig) (ts us : List TimedRecord) (x y : List ReplayEvent)
    (hs ks : List History) → Single → ts ≡ us → (a : EmitsAll config (map what_of ts) x hs)
    → (b : EmitsAll config (map what_of us) y ks)
    → told_by_records config ts (new_histories config) [] x hs a
    ≡ told_by_records config us (new_histories config) [] y ks b
one_first config ts us x y hs ks one same a =
    subst (λ (l : List TimedRecord). (b : EmitsAll config (map what_of l) y ks)
    → told_by_records config ts (new_histories config) [] x hs a
    ≡ told_by_records config l (new_histories config) [] y ks b) same
    (λ b. one_by config ts (new_histories config) (new_histories config) [] [] x y
    hs ks one refl refl a b)

-- what is told of the same records is the same
told_same : (config : ReplayConfig) (records left rest : List TimedRecord) (t u : List TimedEvent)
    → Single → (a : IsToldUpTo config records left t) → (b : IsToldUpTo config records rest u)
    → a.taken ≡ b.taken → t ≡ u
told_same config records left rest t u one a b same =
    a.told_is ∙ one_first config a.taken b.taken a.emitted b.emitted a.histories b.histories one
    same a.emits b.emits ∙ sym b.told_is

one_all : (config : ReplayConfig) (records ts us : List TimedRecord) (x y : List ReplayEvent)
    (p q : ReplayPoint) → Single
    → AreTakenOf config records (new_point config) ts [] p
    → AreTakenOf config records (new_point config) us [] q
    → EmitsAll config (map what_of ts) x p.histories
    → EmitsAll config (map what_of us) y q.histories
    → (ts ≡ us) × (p.histories ≡ q.histories)
one_all config records ts us x y p q one a b e f =
    let same = one_taken config records ts us (new_point config) p q one a b in (
      same,
      (one_told config.window config.gaps (map what_of us) (new_histories config) p.histories
          q.histories x y one
          (subst (λ (l : List TimedRecord). EmitsAll config (map what_of l) x p.histories) same e)
          f).1,
    )

pub one_of_all : (config : ReplayConfig) (records : List TimedRecord) (t u : List TimedEvent)
    → Single → IsToldOfAll config records t → IsToldOfAll config records u → t ≡ u
one_of_all config records t u one a b =
    let c = a.is in
    let d = b.is in
    let x = one_all config records c.taken d.taken c.emitted d.emitted (point_told c) (point_told d)
    one c.are_taken d.are_taken c.emits d.emits in
    let same = told_same config records [] [] a.first b.first one c d x.0 in
    a.told_is ∙ ap (λ (l : List TimedEvent). l ++ at_time None (lasts_told 0 c.histories)) same
    ∙ ap (λ (hs : List History). b.first ++ at_time None (lasts_told 0 hs)) x.1 ∙ sym b.told_is

pub one_of : (config : ReplayConfig) (records : List TimedRecord) (t u : List TimedEvent) → Single
    → IsToldOf config records t → IsToldOf config records u → t ≡ u
one_of config records t u one a b =
    let x = one_all config records a.taken b.taken a.emitted b.emitted (point_told a) (point_told b)
    one a.are_taken b.are_taken a.emits b.emits in
    told_same config records [] [] t u one a b x.0

-- what had room up to the next event is the same prefix
one_front : (limit : ℕ) (old : List Entry) (f g : List ReplayEvent) (x y : ReplayEvent)
    (xs ys : List ReplayEvent) → f ++ x ∷ xs ≡ g ++ y ∷ ys
    → length (entries_of old f) ≤ limit → length (entries_of old g) ≤ limit
    → limit < length (entries_of old (f ++ x ∷ [])) → limit < length (entries_of old (g ++ y ∷ []))
    → f ≡ g
one_front limit old [] [] x y xs ys e fit_f fit_g full_f full_g = refl
one_front limit old [] (h ∷ g) x y xs ys e fit_f fit_g full_f full_g =
    let same : x ≡ h = cc in
    let more = entries_grow (entries_after old h) g in
    absurd (past (rw same at full_f))
  where
    past : limit < length (entries_after old h) → ⊥
    past full = let more = entries_grow (entries_after old h) g in omega arith
one_front limit old (h ∷ f) [] x y xs ys e fit_f fit_g full_f full_g =
    let same : y ≡ h = cc in
    absurd (past (rw same at full_g))
  where
    past : limit < length (entries_after old h) → ⊥
    past full = let more = entries_grow (entries_after old h) f in omega arith
one_front limit old (h ∷ f) (k ∷ g) x y xs ys e fit_f fit_g full_f full_g =
    let same : k ≡ h = cc in
    let rest : f ++ x ∷ xs ≡ g ++ y ∷ ys = cc in
    let tails : f ≡ g = one_front limit (entries_after old h) f g x y xs ys rest fit_f
    (rw same at fit_g) full_f (rw same at full_g) in
    cc

-- what has room, and what has none, after what was emitted before
room_behind : (config : ReplayConfig) (emitted more : List ReplayEvent)
    → HasJournalRoom config (emitted ++ more)
    → length (entries_of (entries_of [] emitted) more) ≤ config.journal
room_behind config emitted more h = subst (λ (es : List Entry). length es ≤ config.journal)
    (entries_more [] emitted more) h

full_behind : (config : ReplayConfig) (emitted first : List ReplayEvent) (next : ReplayEvent)
    → config.journal < length (entries_of [] (emitted ++ first ++ next ∷ []))
    → config.journal < length (entries_of (entries_of [] emitted) (first ++ next ∷ []))
full_behind config emitted first next h =
    subst (λ (es : List Entry). config.journal < length es)
    (ap (entries_of []) (append_assoc emitted first (next ∷ [])) ∙ entries_more [] emitted
    (first ++ next ∷ [])) h

-- what was taken up to a full journal: of the last one the first events had room, and the next one
-- had none
record Filled (config : ReplayConfig) (old : List Entry) (rs ts : List TimedRecord)
    (hs : ReplayPoint) (emitted : List ReplayEvent) : Type 0 where
  read_last : TimedRecord
  mid : ReplayPoint
  are : AreTakenOf config rs hs ts (read_last ∷ []) mid
  emits : Emits config.window config.gaps (map what_of ts) hs.histories emitted mid.histories
  last : TimedRecord
  left : List TimedRecord
  is_last : IsTakenNext config mid (read_last ∷ []) last left
  first : List ReplayEvent
  next : ReplayEvent
  others : List ReplayEvent
  after : List History
  tells : EmitsRecord config.window config.gaps last.what mid.histories (first
      ++ next ∷ others) after
  room : length (entries_of (entries_of old emitted) first) ≤ config.journal
  full : config.journal < length (entries_of (entries_of old emitted) (first ++ next ∷ []))

filled : (config : ReplayConfig) (records : List TimedRecord) (t : List TimedEvent)
    (x : IsToldToFull config records t)
    → Filled config [] records x.before.taken (new_point config) x.before.emitted
filled config records t x = record {
  read_last = x.read_last;
  mid = point_told x.before;
  are = x.before.are_taken;
  emits = x.before.emits;
  last = x.last;
  left = x.left;
  is_last = x.is_last;
  first = x.first;
  next = x.next;
  others = x.others;
  after = x.after;
  tells = x.last_emits;
  room = room_behind config x.before.emitted x.first x.room;
  full = full_behind config x.before.emitted x.first x.next x.full;
}

-- the first of what was taken, and what came after it
filled_on : (config : ReplayConfig) (old : List Entry) (rs ts : List TimedRecord) (t : TimedRecord)
    (hs : ReplayPoint) (emitted head tail : List ReplayEvent) (mid : ReplayPoint)
    (others : List TimedRecord) (x : Filled config old rs (t ∷ ts) hs emitted)
    → emitted ≡ head ++ tail → AreTakenOf config others mid ts (x.read_last ∷ []) x.mid
    → Emits config.window config.gaps (map what_of ts) mid.histories tail x.mid.histories
    → Filled config (entries_of old head) others ts mid tail
filled_on config old rs ts t hs emitted head tail mid others x e are emits =
    let both : entries_of old emitted ≡ entries_of (entries_of old head) tail = ap (entries_of old)
    e ∙ entries_more old head tail in
    record {
      read_last = x.read_last;
      mid = x.mid;
      are = are;
      emits = emits;
      last = x.last;
      left = x.left;
      is_last = x.is_last;
      first = x.first;
      next = x.next;
      others = x.others;
      after = x.after;
      tells = x.tells;
      room = subst (λ (es : List Entry). length (entries_of es x.first) ≤ config.journal) both
          x.room;
      full = subst (λ (es : List Entry). config.journal < length
          (entries_of es (x.first ++ x.next ∷ []))) both x.full;
    }

-- what had no room has none with more after it
no_room : (limit : ℕ) (old : List Entry) (first : List ReplayEvent) (next : ReplayEvent)
    (others more : List ReplayEvent) → limit < length (entries_of old (first ++ next ∷ []))
    → length (entries_of (entries_of old (first ++ next ∷ others)) more) ≤ limit → ⊥
no_room limit old first next others more full room =
    let split : first ++ next ∷ others ≡ (first ++ next ∷ [])
    ++ others = sym (append_assoc first (next ∷ []) others) in
    let all : entries_of (entries_of old (first ++ next ∷ others)) more ≡ entries_of
    (entries_of (entries_of old (first ++ next ∷ [])) others) more =
    ap (λ (hs : List ReplayEvent). entries_of (entries_of old hs) more) split
    ∙ ap (λ (es : List Entry). entries_of es more)
    (entries_more old (first ++ next ∷ []) others) in
    let one = entries_grow (entries_of old (first ++ next ∷ [])) others in
    let two = entries_grow (entries_of (entries_of old (first ++ next ∷ [])) others) more in
    let len = ap length all in
    omega arith

-- where one is full at what the other takes first, with room
not_first : (config : ReplayConfig) (old : List Entry) (rs ts : List TimedRecord) (u : TimedRecord)
    (hs : ReplayPoint) (none emitted head tail more : List ReplayEvent) (mid : List History)
    (left : List TimedRecord) → Single → (x : Filled config old rs [] hs none)
    → IsTakenNext config hs rs u left
    → EmitsRecord config.window config.gaps u.what hs.histories head mid
    → emitted ≡ head ++ tail → length (entries_of (entries_of old emitted) more) ≤ config.journal
    → ⊥
not_first config old rs ts u hs none emitted head tail more mid left one x next tells e room =
    let here : IsTakenNext config hs rs x.last x.left = subst (λ (l : List TimedRecord). IsTakenNext
    config hs l x.last x.left) x.are.0
    (subst (λ (k : ReplayPoint). IsTakenNext config k (x.read_last ∷ []) x.last x.left) x.are.1
    x.is_last) in
    let n = one_next config hs rs x.last u x.left left one here next in
    let mine : EmitsRecord config.window config.gaps u.what hs.histories (x.first
    ++ x.next ∷ x.others) x.after =
    subst (λ (r : TimedRecord). EmitsRecord config.window config.gaps r.what hs.histories (x.first
    ++ x.next ∷ x.others) x.after) n.0
    (subst (λ (k : ReplayPoint). EmitsRecord config.window config.gaps
    x.last.what k.histories (x.first ++ x.next ∷ x.others) x.after) x.are.1 x.tells) in
    let y = one_record config.window config.gaps u.what hs.histories x.after mid (x.first ++ x.next
    ∷ x.others) head one mine tells in
    let all : emitted ≡ (x.first ++ x.next ∷ x.others) ++ tail = e
    ∙ ap (λ (l : List ReplayEvent). l ++ tail) (sym y.0) in
    let full : config.journal < length (entries_of old (x.first ++ x.next ∷ [])) =
    subst (λ (l : List ReplayEvent). config.journal < length (entries_of (entries_of old l)
    (x.first ++ x.next ∷ []))) x.emits.0 x.full in
    let later : entries_of (entries_of old emitted) more ≡ entries_of
    (entries_of old (x.first ++ x.next ∷ x.others)) (tail ++ more) =
    ap (λ (l : List ReplayEvent). entries_of (entries_of old l) more) all
    ∙ ap (λ (es : List Entry). entries_of es more)
    (entries_more old (x.first ++ x.next ∷ x.others) tail)
    ∙ sym (entries_more (entries_of old (x.first ++ x.next ∷ x.others)) tail more) in
    no_room config.journal old x.first x.next x.others (tail ++ more) full
    (subst (λ (es : List Entry). length es ≤ config.journal) later room)

-- what is the same of two of them
record SameFilled (config : ReplayConfig) (old : List Entry) (rs ts us : List TimedRecord)
    (hs : ReplayPoint) (e f : List ReplayEvent) (x : Filled config old rs ts hs e)
    (y : Filled config old rs us hs f) : Type 0 where
  taken : ts ≡ us
  emitted : e ≡ f
  last : x.last ≡ y.last
  first : x.first ≡ y.first

-- where the same has room up to the same place, what had room is the same
filled_once : (config : ReplayConfig) (old : List Entry) (rs ts us : List TimedRecord)
    (hs : ReplayPoint) (e f : List ReplayEvent) → Single → (x : Filled config old rs ts hs e)
    → (y : Filled config old rs us hs f) → SameFilled config old rs ts us hs e f x y
unfolding filled_on
filled_once config old rs [] [] hs e f one x y =
    let here : IsTakenNext config hs rs x.last x.left = subst (λ (l : List TimedRecord). IsTakenNext
    config hs l x.last x.left) x.are.0
    (subst (λ (k : ReplayPoint). IsTakenNext config k (x.read_last ∷ []) x.last x.left) x.are.1
    x.is_last) in
    let there : IsTakenNext config hs rs y.last y.left =
    subst (λ (l : List TimedRecord). IsTakenNext config hs l y.last y.left) y.are.0
    (subst (λ (k : ReplayPoint). IsTakenNext config k (y.read_last ∷ []) y.last y.left) y.are.1
    y.is_last) in
    let n = one_next config hs rs x.last y.last x.left y.left one here there in
    let mine : EmitsRecord config.window config.gaps y.last.what hs.histories (x.first
    ++ x.next ∷ x.others) x.after =
    subst (λ (r : TimedRecord). EmitsRecord config.window config.gaps r.what hs.histories (x.first
    ++ x.next ∷ x.others) x.after) n.0
    (subst (λ (k : ReplayPoint). EmitsRecord config.window config.gaps
    x.last.what k.histories (x.first ++ x.next ∷ x.others) x.after) x.are.1 x.tells) in
    let theirs : EmitsRecord config.window config.gaps y.last.what hs.histories (y.first
    ++ y.next ∷ y.others) y.after =
    subst (λ (k : ReplayPoint). EmitsRecord config.window config.gaps y.last.what k.histories
    (y.first ++ y.next ∷ y.others) y.after) y.are.1 y.tells in
    let same = one_record config.window config.gaps y.last.what hs.histories x.after y.after
    (x.first ++ x.next ∷ x.others) (y.first ++ y.next ∷ y.others) one mine theirs in
    let front : x.first ≡ y.first = one_front config.journal old x.first y.first x.next y.next
    x.others y.others same.0
    (subst (λ (l : List ReplayEvent). length (entries_of (entries_of old l)
    x.first) ≤ config.journal) x.emits.0 x.room)
    (subst (λ (l : List ReplayEvent). length (entries_of (entries_of old l)
    y.first) ≤ config.journal) y.emits.0 y.room)
    (subst (λ (l : List ReplayEvent). config.journal < length (entries_of (entries_of old l)
    (x.first ++ x.next ∷ []))) x.emits.0 x.full)
    (subst (λ (l : List ReplayEvent). config.journal < length (entries_of (entries_of old l)
    (y.first ++ y.next ∷ []))) y.emits.0 y.full) in
    record { taken = refl; emitted = x.emits.0 ∙ sym y.emits.0; last = n.0; first = front }
filled_once config old rs [] (u ∷ us) hs e f one x y =
    let (others, told, mid, next, tells, rest) = y.are in
    let (m, head, tail, is, more, all) = y.emits in
    absurd (not_first config old rs us u hs e f head tail y.first m others one x next is all y.room)
filled_once config old rs (t ∷ ts) [] hs e f one x y =
    let (others, told, mid, next, tells, rest) = x.are in
    let (m, head, tail, is, more, all) = x.emits in
    absurd (not_first config old rs ts t hs f e head tail x.first m others one y next is all x.room)
filled_once config old rs (t ∷ ts) (u ∷ us) hs e f one x y =
    let (others, told, mid, next, tells, rest) = x.are in
    let (m, head, tail, is, more, all) = x.emits in
    let (ends, said, between, here, says, most) = y.are in
    let (k, front, back, at, later, whole) = y.emits in
    let a = one_record config.window config.gaps t.what hs.histories mid m told head one tells is in
    let b = one_record config.window config.gaps u.what hs.histories between k said front one says
    at in
    let n = one_next config hs rs t u others ends one next here in
    let c = one_record config.window config.gaps u.what hs.histories m k head front one
    (subst (λ (r : TimedRecord). EmitsRecord config.window config.gaps r.what hs.histories head m)
    n.0 is) at in
    let mid_point : ReplayPoint = point_after config hs u k in
    let left : AreTakenOf config ends mid_point ts (x.read_last ∷ []) x.mid =
    subst (λ (l : List TimedRecord). AreTakenOf config l mid_point ts (x.read_last ∷ []) x.mid) n.1
    (subst (λ (l : ReplayPoint). AreTakenOf config others l ts (x.read_last ∷ []) x.mid)
    (same_point config hs t u mid k n.0 (a.1 ∙ c.1)) rest) in
    let right : AreTakenOf config ends mid_point us (y.read_last ∷ []) y.mid =
    subst (λ (l : ReplayPoint). AreTakenOf config ends l us (y.read_last ∷ []) y.mid)
    (same_point config hs u u between k refl b.1) most in
    let p = filled_on config old rs ts t hs e front tail mid_point ends x (all
    ∙ ap (λ (l : List ReplayEvent). l ++ tail) c.0) left
    (subst (λ (l : List History). Emits config.window config.gaps (map what_of ts) l tail
    x.mid.histories) c.1 more) in
    let q = filled_on config old rs us u hs f front back mid_point ends y whole right later in
    let tails = filled_once config (entries_of old front) ends ts us mid_point tail back one p q in
    record {
      taken = ap (λ (r : TimedRecord). r ∷ ts) n.0
          ∙ ap (λ (l : List TimedRecord). u ∷ l) tails.taken;
      emitted = all ∙ ap (λ (l : List ReplayEvent). l ++ tail) c.0
          ∙ ap (λ (l : List ReplayEvent). front ++ l) tails.emitted ∙ sym whole;
      last = tails.last;
      first = tails.first;
    }

pub one_full : (config : ReplayConfig) (records : List TimedRecord) (t u : List TimedEvent) → Single
    → IsToldToFull config records t → IsToldToFull config records u → t ≡ u
unfolding filled
one_full config records t u one a b =
    let c = a.before in
    let d = b.before in
    let s = filled_once config [] records c.taken d.taken (new_point config) c.emitted d.emitted
    one (filled config records t a) (filled config records u b) in
    let same = told_same config records (a.read_last ∷ []) (b.read_last ∷ []) a.told_before
    b.told_before one c d s.taken in
    let T : TimedRecord → List ReplayEvent → List ReplayEvent
    → List TimedEvent = λ last emitted first. at_time last.time (told_of config.symbols.now
    (entries_of [] emitted) first) in
    a.told_is ∙ ap (λ (l : List TimedEvent). l ++ T a.last c.emitted a.first) same
    ∙ ap (λ (r : TimedRecord). b.told_before ++ T r c.emitted a.first) s.last
    ∙ ap (λ (l : List ReplayEvent). b.told_before ++ T b.last l a.first) s.emitted
    ∙ ap (λ (l : List ReplayEvent). b.told_before ++ T b.last d.emitted l) s.first
    ∙ sym b.told_is

-- what all has room isn't full
all_or_full : (config : ReplayConfig) (old : List Entry) (rs ts us : List TimedRecord)
    (hs new : ReplayPoint) (e f : List ReplayEvent) → Single → AreTakenOf config rs hs ts [] new
    → Emits config.window config.gaps (map what_of ts) hs.histories e new.histories
    → length (entries_of old e) ≤ config.journal → Filled config old rs us hs f → ⊥
all_or_full config old rs [] [] hs new e f one are emits room y =
    let none : [] ≡ y.read_last ∷ [] = are.0 ∙ sym y.are.0 in
    absurd (cc)
all_or_full config old rs [] (u ∷ us) hs new e f one are emits room y =
    let (others, told, mid, next, tells, rest) = y.are in
    absurd (subst (λ (l : List TimedRecord). IsTakenNext config hs l u others) (sym are.0) next)
all_or_full config old rs (t ∷ ts) [] hs new e f one (others, told, mid, next, tells, rest)
    (m, head, tail, is, more, all) room y =
    not_first config old rs ts t hs f e head tail [] m others one y next is all room
all_or_full config old rs (t ∷ ts) (u ∷ us) hs new e f one (others, told, mid, next, tells, rest)
    (m, head, tail, is, more, all) room y =
    let (ends, said, between, here, says, most) = y.are in
    let (k, front, back, at, later, whole) = y.emits in
    let a = one_record config.window config.gaps t.what hs.histories mid m told head one tells is in
    let b = one_record config.window config.gaps u.what hs.histories between k said front one says
    at in
    let n = one_next config hs rs t u others ends one next here in
    let c = one_record config.window config.gaps u.what hs.histories m k head front one
    (subst (λ (r : TimedRecord). EmitsRecord config.window config.gaps r.what hs.histories head m)
    n.0 is) at in
    let mid_point : ReplayPoint = point_after config hs u k in
    let left : AreTakenOf config ends mid_point ts [] new =
    subst (λ (l : List TimedRecord). AreTakenOf config l mid_point ts [] new) n.1
    (subst (λ (l : ReplayPoint). AreTakenOf config others l ts [] new)
    (same_point config hs t u mid k n.0 (a.1 ∙ c.1)) rest) in
    let right : AreTakenOf config ends mid_point us (y.read_last ∷ []) y.mid =
    subst (λ (l : ReplayPoint). AreTakenOf config ends l us (y.read_last ∷ []) y.mid)
    (same_point config hs u u between k refl b.1) most in
    let q = filled_on config old rs us u hs f front back mid_point ends y whole right later in
    let both : entries_of old e ≡ entries_of (entries_of old front) tail = ap (entries_of old) (all
    ∙ ap (λ (l : List ReplayEvent). l ++ tail) c.0) ∙ entries_more old front tail in
    all_or_full config (entries_of old front) ends ts us mid_point new tail back one left
    (subst (λ (l : List History). Emits config.window config.gaps (map what_of ts) l tail
    new.histories) c.1 more) (subst (λ (es : List Entry). length es ≤ config.journal) both room) q

pub not_both : (config : ReplayConfig) (records : List TimedRecord) (t u : List TimedEvent) → Single
    → IsToldOf config records t → IsToldToFull config records u → ⊥
not_both config records t u one a b =
    all_or_full config [] records a.taken b.before.taken (new_point config) (point_told a)
    a.emitted b.before.emitted one a.are_taken a.emits a.room (filled config records u b)
