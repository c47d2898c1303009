-- What has become of one datagram, and what a line has brought by it.
use Rattle.std.proofs.Common.{◌≡◌, ◌∙◌, ◌≤◌, arith, ◌++◌, ℕ, List, [], ◌∷◌, Option, Some, None, refl, sym, ap, subst}
use Rattle.std.specs.Prelude.{IsTrue, is_some}
use Rattle.std.proofs.lemmas.List.{append-nil}
use Rattle.std.specs.declared.net.socket_addr.SocketAddr.{SocketAddr}
use Rattle.run_settings.specs.Senders.{IsTakenFrom}
use Rattle.udp_lines.specs.Brought.{HandedOn, Foreign, Withheld, Held, Released, HasMet, Kept, SortingRule, one_counted, counted_with, listed, withheld_of}
use Rattle.udp_lines.specs.Plausible.{Covers, IsWithheld, MayBeHeld}
use Rattle.udp_lines.specs.Sockets.{HearsFrom, HearsOf}
use Rattle.udp_lines.specs.UdpLines.{HasBrought, UdpLineState, held_in, kept_in, sorting_of}
use Rattle.udp_lines.specs.declared.intake.Intake.{Intake}

module _ {S : Type 0} (brings : S → SocketAddr → List ℕ → S → Type 0) (waits : S → S → Type 0)
    (waits_not : (s : S) → waits s s) where
  pub handed : (rule : SortingRule) (s t : S) (k : Kept) (sender : SocketAddr)
      (bytes seen read : List ℕ) (highest : ℕ) → HearsFrom brings waits s sender bytes t
      → IsTakenFrom rule.senders sender → k.highest ≤ highest
      → (IsTrue (is_some rule.most_ahead) → Covers rule.session seen highest)
      → seen ≡ bytes → read ≡ seen
      → HasMet brings waits rule s k (read ∷ []) t (record k { highest = highest })
  handed rule s t k sender bytes seen read highest heard is le covers b e = record {
    fates = HandedOn sender bytes highest ∷ [];
    met = (
      t,
      (
        heard,
        is,
        le,
        subst (λ (x : List ℕ). IsTrue (is_some rule.most_ahead) → Covers rule.session x highest) b
            covers,
      ),
      waits_not t,
    );
    kept = refl;
    handed_on = ap (λ (x : List ℕ). x ∷ []) (e ∙ b);
  }

  pub kept_back : (rule : SortingRule) (before : S) (old new : Intake S) (sender : SocketAddr)
      (bytes seen : List ℕ) → HearsFrom brings waits before sender bytes old.line_socket.socket
      → IsTakenFrom rule.senders sender
      → IsWithheld rule.end rule.most_ahead rule.session old.check.highest seen → seen ≡ bytes
      → new.line_socket.socket ≡ old.line_socket.socket
      → kept_in new ≡ record (kept_in old) { withheld = one_counted old.withheld }
      → HasMet brings waits rule before (kept_in old) [] new.line_socket.socket (kept_in new)
  kept_back rule before old new sender bytes seen heard is why b socket kept = record {
    fates = Withheld sender bytes ∷ [];
    met = (
      old.line_socket.socket,
      (
        heard,
        is,
        subst (λ (x : List ℕ). IsWithheld rule.end rule.most_ahead rule.session old.check.highest x)
            b why,
      ),
      subst (λ (x : S). waits old.line_socket.socket x) (sym socket)
          (waits_not old.line_socket.socket),
    );
    kept = kept;
    handed_on = refl;
  }

  pub held_back : (rule : SortingRule) (before : S) (old new : Intake S) (sender : SocketAddr)
      (bytes seen : List ℕ) → HearsFrom brings waits before sender bytes old.line_socket.socket
      → IsTakenFrom rule.senders sender
      → MayBeHeld rule.most_ahead rule.session old.check.highest seen → seen ≡ bytes
      → new.line_socket.socket ≡ old.line_socket.socket
      → kept_in new ≡ record (kept_in old) {
        held = Some seen;
        withheld = withheld_of (kept_in old);
      }
      → HasMet brings waits rule before (kept_in old) [] new.line_socket.socket (kept_in new)
  held_back rule before old new sender bytes seen heard is why b socket kept = record {
    fates = Held sender bytes ∷ [];
    met = (
      old.line_socket.socket,
      (
        heard,
        is,
        subst (λ (x : List ℕ). MayBeHeld rule.most_ahead rule.session old.check.highest x) b why,
      ),
      subst (λ (x : S). waits old.line_socket.socket x) (sym socket)
          (waits_not old.line_socket.socket),
    );
    kept =
        kept ∙ ap (λ (x : List ℕ). record (kept_in old) {
          held = Some x;
          withheld = withheld_of (kept_in old);
        }) b;
    handed_on = refl;
  }

  -- one is held in place of another, which is handed on
  pub exchanged : (rule : SortingRule) (before : S) (old new : Intake S) (sender : SocketAddr)
      (bytes seen : List ℕ) (found : Option (List ℕ))
      → HearsFrom brings waits before sender bytes old.line_socket.socket
      → IsTakenFrom rule.senders sender
      → MayBeHeld rule.most_ahead rule.session old.check.highest seen → seen ≡ bytes
      → held_in old.held ≡ found → new.line_socket.socket ≡ old.line_socket.socket
      → kept_in new ≡ record (kept_in old) { held = Some seen }
      → HasMet brings waits rule before (kept_in old) (listed found) new.line_socket.socket
      (kept_in new)
  exchanged rule before old new sender bytes seen None heard is why b f socket kept = record {
    fates = Held sender bytes ∷ [];
    met = (
      old.line_socket.socket,
      (
        heard,
        is,
        subst (λ (x : List ℕ). MayBeHeld rule.most_ahead rule.session old.check.highest x) b why,
      ),
      subst (λ (x : S). waits old.line_socket.socket x) (sym socket)
          (waits_not old.line_socket.socket),
    );
    kept =
        kept ∙ ap (λ (x : List ℕ). record (kept_in old) { held = Some x }) b
        ∙ ap (λ (h : Option (List ℕ)). record (kept_in old) {
          held = Some bytes;
          withheld = counted_with h old.withheld;
        }) (sym f);
    handed_on = refl;
  }
  exchanged rule before old new sender bytes seen (Some first) heard is why b f socket kept =
      record {
        fates = Released old.check.highest ∷ Held sender bytes ∷ [];
        met = (
          before,
          (
            waits_not before,
            subst (λ (h : Option (List ℕ)). IsTrue (is_some h)) (sym f) refl,
            omega (arith),
          ),
          (
            old.line_socket.socket,
            (
              heard,
              is,
              subst (λ (x : List ℕ). MayBeHeld rule.most_ahead rule.session old.check.highest x)
                  b why,
            ),
            subst (λ (x : S). waits old.line_socket.socket x) (sym socket)
                (waits_not old.line_socket.socket),
          ),
        );
        kept = kept ∙ ap (λ (x : List ℕ). record (kept_in old) { held = Some x }) b;
        handed_on = ap listed (sym f) ∙ sym (append-nil (listed (held_in old.held)));
      }

  pub passed_over : (rule : SortingRule) (s t : S) (k : Kept) (bytes : List ℕ)
      → HearsOf brings waits (λ sender. IsTakenFrom rule.senders sender → ⊥) s bytes t
      → HasMet brings waits rule s k [] t (record k { foreign = one_counted k.foreign })
  passed_over rule s t k bytes h = record {
    fates = Foreign h.sender bytes ∷ [];
    met = (t, (h.heard, h.is), waits_not t);
    kept = refl;
    handed_on = refl;
  }

  pub waited : (rule : SortingRule) (s t : S) (k : Kept) → waits s t
      → HasMet brings waits rule s k [] t k
  waited rule s t k w = record {
    fates = [];
    met = w;
    kept = refl;
    handed_on = refl;
  }

  pub released : (rule : SortingRule) (s : S) (k : Kept) (found left : Option (List ℕ))
      (highest : ℕ) → IsTrue (is_some k.held) → k.highest ≤ highest → found ≡ k.held → left ≡ None
      → HasMet brings waits rule s k (listed found) s (record k { held = left; highest = highest })
  released rule s k found left highest is le f n = record {
    fates = Released highest ∷ [];
    met = (s, (waits_not s, is, le), waits_not s);
    kept = ap (λ (x : Option (List ℕ)). record k { held = x; highest = highest }) n;
    handed_on = ap listed f ∙ sym (append-nil (listed k.held));
  }

-- a poll of a line where nothing waited
pub polled : {S : Type 0} (brings : S → SocketAddr → List ℕ → S → Type 0) (waits : S → S → Type 0)
    (l m : UdpLineState S) (handed : List (List ℕ)) → m.venue ≡ l.venue
    → sorting_of m ≡ sorting_of l → l.waiting ≡ []
    → HasMet brings waits (sorting_of l) l.socket l.kept handed m.socket m.kept
    → m.waiting ≡ handed → HasBrought brings waits l [] m
polled brings waits l m handed venue sorting none met here = record {
  venue = venue;
  sorting = sorting;
  handed_on = handed;
  met = met;
  all = ap (λ (x : List (List ℕ)). x ++ handed) none ∙ sym here;
}

-- a line that has handed over to a recording alone
pub recorded_only : {S : Type 0} (brings : S → SocketAddr → List ℕ → S → Type 0)
    (waits : S → S → Type 0) (waits_not : (s : S) → waits s s) (l m : UdpLineState S)
    → m ≡ record l { records = m.records } → HasBrought brings waits l [] m
recorded_only {S} brings waits waits_not l m e =
    subst (λ (x : UdpLineState S). HasBrought brings waits l [] x) (sym e) (record {
      venue = refl;
      sorting = refl;
      handed_on = [];
      met = record {
        fates = [];
        met = waits_not l.socket;
        kept = refl;
        handed_on = refl;
      };
      all = append-nil l.waiting;
    })

-- what waited is taken
pub took : {S : Type 0} (brings : S → SocketAddr → List ℕ → S → Type 0) (waits : S → S → Type 0)
    (l m n : UdpLineState S) (xs : List (List ℕ)) → HasBrought brings waits l [] m
    → n.venue ≡ m.venue → sorting_of n ≡ sorting_of m → n.socket ≡ m.socket → n.kept ≡ m.kept
    → n.waiting ≡ [] → m.waiting ≡ xs → HasBrought brings waits l xs n
took {S} brings waits l m n xs b venue sorting socket kept none here = record {
  venue = venue ∙ b.venue;
  sorting = sorting ∙ b.sorting;
  handed_on = b.handed_on;
  met =
      subst (λ (x : Kept). HasMet brings waits (sorting_of l) l.socket l.kept b.handed_on n.socket
      x) (sym kept)
      (subst (λ (x : S). HasMet brings waits (sorting_of l) l.socket l.kept b.handed_on x m.kept)
      (sym socket) b.met);
  all =
      b.all ∙ here ∙ sym (append-nil xs)
      ∙ ap (λ (x : List (List ℕ)). xs ++ x) (sym none);
}

-- a line of which only the socket, what is kept and what waits has changed, twice
pub moved_more : {S : Type 0} (l m n : UdpLineState S)
    → m ≡ record l {
      socket = m.socket;
      kept = m.kept;
      waiting = m.waiting;
      answered = m.answered;
    }
    → n ≡ record m {
      socket = n.socket;
      kept = n.kept;
      waiting = n.waiting;
      answered = n.answered;
    }
    → n ≡ record l {
      socket = n.socket;
      kept = n.kept;
      waiting = n.waiting;
      answered = n.answered;
    }
moved_more {S} l m n a b =
    b ∙ ap (λ (x : UdpLineState S). record x {
      socket = n.socket;
      kept = n.kept;
      waiting = n.waiting;
      answered = n.answered;
    }) a
