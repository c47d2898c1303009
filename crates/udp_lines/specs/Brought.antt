-- What a line makes of what its socket brings.
use Rattle.std.specs.Prelude.{◌≡◌, ℕ, ◌+◌, ◌-◌, ◌^◌, ◌≤◌, List, [], ◌∷◌, ◌++◌, min, Option, Some, None, is_some, IsTrue}
use Rattle.std.specs.declared.net.socket_addr.SocketAddr.{SocketAddr}
use Rattle.run_settings.specs.Senders.{IsTakenFrom}
use Rattle.run_settings.specs.declared.sender.AllowedSender.{AllowedSender}
use Rattle.run_settings.specs.declared.end_rule.EndRule.{EndRule}
use Rattle.udp_lines.specs.Plausible.{Covers, IsWithheld, MayBeHeld}
use Rattle.udp_lines.specs.Sockets.{HearsFrom}

-- by what a line sorts datagrams: the session, which ends of session end it, the most that a number
-- may be ahead, if that is asked, and the senders, where any are named
pub record SortingRule : Type 0 where
  pub session : List ℕ
  pub end : EndRule
  pub most_ahead : Option ℕ
  pub senders : Option (List AllowedSender)

-- What a line keeps of the datagrams before: one that is held, an end of its session or a number
-- too far ahead; the highest number that was handed on; and how many datagrams were passed over and
-- withheld. These counts stay at 2^64 - 1.
pub record Kept : Type 0 where
  pub held : Option (List ℕ)
  pub highest : ℕ
  pub foreign : ℕ
  pub withheld : ℕ

abbrev pub nothing_kept : Kept
nothing_kept = record { held = None; highest = 0; foreign = 0; withheld = 0 }

-- What has become of a datagram of this address and these bytes. Or the one that was held is handed
-- on. With what is handed on goes the highest number then.
pub data Fate : Type 0 where
  HandedOn : SocketAddr → List ℕ → (highest : ℕ) → Fate
  Foreign : SocketAddr → List ℕ → Fate
  Withheld : SocketAddr → List ℕ → Fate
  Held : SocketAddr → List ℕ → Fate
  Released : (highest : ℕ) → Fate

abbrev pub one_counted : ℕ → ℕ
one_counted n = min (n + 1) (2 ^ 64 - 1)

-- the count of what is withheld, with the one that is held, if any is
abbrev pub counted_with : Option (List ℕ) → ℕ → ℕ
counted_with None n = n
counted_with (Some bytes) n = one_counted n

-- How many datagrams of its senders the line has read and not handed on. One that is held is among
-- them; one that is held in place of another leaves that withheld.
abbrev pub withheld_of : Kept → ℕ
withheld_of k = counted_with k.held k.withheld

abbrev pub kept_after : Kept → Fate → Kept
kept_after k (HandedOn sender bytes highest) = record k { highest = highest }
kept_after k (Foreign sender bytes) = record k { foreign = one_counted k.foreign }
kept_after k (Withheld sender bytes) = record k { withheld = one_counted k.withheld }
kept_after k (Held sender bytes) =
    record k { held = Some bytes; withheld = withheld_of k }
kept_after k (Released highest) = record k { held = None; highest = highest }

abbrev pub listed : Option (List ℕ) → List (List ℕ)
listed None = []
listed (Some bytes) = bytes ∷ []

-- what is handed on
abbrev pub handed_on : Kept → Fate → List (List ℕ)
handed_on k (HandedOn sender bytes highest) = bytes ∷ []
handed_on k (Released highest) = listed k.held
handed_on k _ = []

abbrev pub all_handed_on : Kept → List Fate → List (List ℕ)
all_handed_on k [] = []
all_handed_on k (fate ∷ fates) = handed_on k fate ++ all_handed_on (kept_after k fate) fates

abbrev pub kept_after_all : Kept → List Fate → Kept
kept_after_all k [] = k
kept_after_all k (fate ∷ fates) = kept_after_all (kept_after k fate) fates

module _ {S : Type 0} (brings : S → SocketAddr → List ℕ → S → Type 0) (waits : S → S → Type 0)
    (rule : SortingRule) where
  -- The socket has brought this datagram, and this was rightly its fate.
  abbrev pub Meets : S → Kept → Fate → S → Type 0
  Meets s k (HandedOn sender bytes highest) t =
      HearsFrom brings waits s sender bytes t × IsTakenFrom rule.senders sender
      × (k.highest ≤ highest)
      × (IsTrue (is_some rule.most_ahead) → Covers rule.session bytes highest)
  Meets s k (Foreign sender bytes) t =
      HearsFrom brings waits s sender bytes t × (IsTakenFrom rule.senders sender → ⊥)
  Meets s k (Withheld sender bytes) t =
      HearsFrom brings waits s sender bytes t × IsTakenFrom rule.senders sender
      × IsWithheld rule.end rule.most_ahead rule.session k.highest bytes
  Meets s k (Held sender bytes) t =
      HearsFrom brings waits s sender bytes t × IsTakenFrom rule.senders sender
      × MayBeHeld rule.most_ahead rule.session k.highest bytes
  Meets s k (Released highest) t =
      waits s t × IsTrue (is_some k.held) × (k.highest ≤ highest)

  -- The socket has brought datagrams that had these fates, one after the other, and none besides.
  abbrev pub MeetsAll : S → Kept → List Fate → S → Type 0
  MeetsAll s k [] t = waits s t
  MeetsAll s k (fate ∷ fates) t =
      (u : S) × Meets s k fate u × MeetsAll u (kept_after k fate) fates t

  -- Of what the socket has brought from one state to the other, the datagrams of these bytes were
  -- handed on; the rest is counted or held.
  pub record HasMet (s : S) (k : Kept) (bytes : List (List ℕ)) (t : S) (l : Kept) : Type 0 where
    pub fates : List Fate
    pub met : MeetsAll s k fates t
    pub kept : l ≡ kept_after_all k fates
    pub handed_on : bytes ≡ all_handed_on k fates
