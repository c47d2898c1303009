-- The history that an arbiter fits: at first, and after a packet, a push and a renewal.
use Rattle.std.proofs.Common.{◌≡◌, ℕ, ◌+◌, List, [], ◌∷◌, ◌++◌, length, Option, Result, refl, sym, ap, subst, ◌∙◌, arith}
use Rattle.feed_types.specs.declared.line.LineId.{LineId}
use Rattle.feed_types.specs.declared.line.LineId.TheVariants.{A, B, Recovery}
use Rattle.mold_packet.specs.Content.{Content}
use Rattle.line_arbiter.specs.declared.outcome.Outcome.{Outcome}
use Rattle.line_arbiter.specs.declared.outcome.LineFault.{LineFault}
use Rattle.line_arbiter.specs.declared.faults.RenewFault.{RenewFault}
use Rattle.line_arbiter.specs.Packets.{Input, end_of}
use Rattle.line_arbiter.specs.Streams.{wins_of}
use Rattle.line_arbiter.specs.Outcomes.{IsOutcome}
use Rattle.line_arbiter.specs.Renewals.{IsRenewal}
use Rattle.line_arbiter.specs.Histories.{History, all_begun, after_input, after_renewal, names_of, new_history, wins_in}
use Rattle.feed_types.specs.PerLines.{on_all, on_line}
use Rattle.line_arbiter.specs.Counts.{shown}
use Rattle.line_arbiter.specs.States.{State, ordinal_of, IsNew, IsRenewed, KeepsAllButSent, KeepsItsSession}
use Rattle.line_arbiter.specs.Fits.{Fits, FitsHistory}
use Rattle.line_arbiter.specs.laws.Histories.{names_length, names_next, names_same, wins_push}

-- ---- what is kept

-- first one change, and then another
pub keeping_its_session_is_transitive : {old mid new : State} → KeepsItsSession old mid
    → KeepsItsSession mid new → KeepsItsSession old new
keeping_its_session_is_transitive a b = record {
  venue = b.venue ∙ a.venue;
  sessions = b.sessions ∙ a.sessions;
  session = b.session ∙ a.session;
  window = b.window ∙ a.window;
  earlier = b.earlier ∙ a.earlier;
}

-- nothing was sent yet
pub keeping_all_but_sent_is_reflexive : {s : State} → KeepsAllButSent s s
keeping_all_but_sent_is_reflexive = record {
  session = record {
    venue = refl;
    sessions = refl;
    session = refl;
    window = refl;
    earlier = refl;
  };
  front = refl;
  known = refl;
  end = refl;
  wins = refl;
}

-- and then more was sent
pub keeping_all_but_sent_is_transitive : {old mid new : State} → KeepsAllButSent old mid
    → KeepsAllButSent mid new → KeepsAllButSent old new
keeping_all_but_sent_is_transitive a b = record {
  session = keeping_its_session_is_transitive a.session b.session;
  front = b.front ∙ a.front;
  known = b.known ∙ a.known;
  end = b.end ∙ a.end;
  wins = b.wins ∙ a.wins;
}

-- ---- nothing came yet

no_wins : (line : LineId) → on_line line (on_all 0) ≡ shown 0
no_wins A = refl
no_wins B = refl
no_wins Recovery = refl

pub fits_new : {s : State} {venue window : ℕ} {name : List ℕ} → IsNew s venue name window
    → Fits s [] → FitsHistory s (new_history name)
fits_new new fits = record {
  present = fits;
  names = new.sessions;
  session = new.begun.session;
  earlier = λ line. ap (on_line line) new.earlier ∙ no_wins line;
}

-- ---- one more packet

pub fits_packet : {old new : State} (h : History) (a : Input) → FitsHistory old h
    → KeepsItsSession old new → Fits new (h.present.packets ++ a ∷ [])
    → FitsHistory new (after_input h a)
fits_packet h a f kept fits = record {
  present = fits;
  names = kept.sessions ∙ f.names ∙ names_same h a;
  session = kept.session ∙ f.session;
  earlier = λ line. ap (on_line line) kept.earlier ∙ f.earlier line;
}

-- its answer is the one that the history asks for
pub outcome_in : {s : State} (h : History) (p : Content) (answer : Result Outcome LineFault)
    → FitsHistory s h → IsOutcome s.session s.window s.sent h.present.packets p answer
    → IsOutcome h.present.name s.window s.sent h.present.packets p answer
outcome_in {s =
    s} h p answer f right =
    subst (λ (name : List ℕ). IsOutcome name s.window s.sent h.present.packets p answer)
    f.session right

-- ---- items that were sent

pub fits_push : {old new : State} (h : History) → FitsHistory old h → KeepsAllButSent old new
    → Fits new h.present.packets → FitsHistory new h
fits_push h f kept fits = record {
  present = fits;
  names = kept.session.sessions ∙ f.names;
  session = kept.session.session ∙ f.session;
  earlier = λ line. ap (on_line line) kept.session.earlier ∙ f.earlier line;
}

-- ---- wins, over all sessions

-- a count that is shown goes on from what was shown
pub shown_more : (n earlier now : ℕ) → n ≡ shown earlier → shown (n + now) ≡ shown (earlier + now)
shown_more n earlier now e = omega arith

pub wins_shown : {s : State} (h : History) → FitsHistory s h → (line : LineId)
    → shown (on_line line s.earlier + wins_of h.present.packets line)
    ≡ shown (wins_in (all_begun h) line)
wins_shown {s = s} h f line =
    shown_more (on_line line s.earlier) (wins_in h.earlier line) (wins_of h.present.packets line)
    (f.earlier line)
    ∙ ap shown (sym (wins_push h.earlier h.present line))

pub wins_are : {s : State} (h : History) → FitsHistory s h → (line : LineId)
    → on_line line s.wins ≡ shown (wins_in (all_begun h) line)
wins_are h f line = f.present.wins line ∙ wins_shown h f line

-- ---- the next session

pub fits_renewal : {old new : State} (h : History) (name : List ℕ) → FitsHistory old h
    → IsRenewed old new name → Fits new [] → FitsHistory new (after_renewal h name)
fits_renewal h name f renewed fits = record {
  present = fits;
  names =
      renewed.sessions ∙ ap (λ (names : List (List ℕ)). names ++ name ∷ []) f.names
      ∙ sym (names_next h name);
  session = renewed.begun.session;
  earlier = λ line. ap (on_line line) renewed.earlier ∙ wins_are h f line;
}

-- its answer is the one that the history asks for
pub renewal_in : {s : State} (h : History) (name : List ℕ) (answer : Result ℕ RenewFault)
    → FitsHistory s h → IsRenewal s.sessions s.end s.sent name answer
    → IsRenewal (names_of h) (end_of h.present.packets) s.sent name answer
renewal_in {s =
    s} h name answer f right =
    subst (λ (x : List (List ℕ) × Option ℕ). IsRenewal x.0 x.1 s.sent name answer)
    (λ i. (f.names i, f.present.end i)) right

pub ordinal_is : {s : State} (h : History) → FitsHistory s h → ordinal_of s ≡ 1 + length h.earlier
ordinal_is h f = ap length f.names ∙ names_length h
