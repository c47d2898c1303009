-- What a line brings in calls after calls is what it brings in all of them.
use Rattle.std.proofs.Common.{◌≡◌, ◌∙◌, ℕ, List, [], ◌∷◌, ◌++◌, refl, sym, ap, subst, append_assoc}
use Rattle.std.proofs.lemmas.List.{append-nil}
use Rattle.std.specs.declared.net.socket_addr.SocketAddr.{SocketAddr}
use Rattle.udp_lines.specs.Brought.{Fate, HandedOn, Foreign, Withheld, Held, Released, HasMet, Kept, Meets, MeetsAll, SortingRule, all_handed_on, kept_after_all, handed_on, kept_after}
use Rattle.udp_lines.specs.Sockets.{HearsFrom}
use Rattle.udp_lines.specs.UdpLines.{HasBrought, UdpLineState, sorting_of}

all_kept_more : (k : Kept) (xs ys : List Fate)
    → kept_after_all k (xs ++ ys) ≡ kept_after_all (kept_after_all k xs) ys
all_kept_more k [] ys = refl
all_kept_more k (x ∷ xs) ys = all_kept_more (kept_after k x) xs ys

all_handed_on_more : (k : Kept) (xs ys : List Fate)
    → all_handed_on k (xs ++ ys) ≡ all_handed_on k xs ++ all_handed_on (kept_after_all k xs) ys
all_handed_on_more k [] ys = refl
all_handed_on_more k (x ∷ xs) ys =
    ap (λ (z : List (List ℕ)). handed_on k x ++ z) (all_handed_on_more (kept_after k x) xs ys)
    ∙ sym (append_assoc (handed_on k x) (all_handed_on (kept_after k x) xs)
    (all_handed_on (kept_after_all k (x ∷ xs)) ys))

module _ {S : Type 0} (brings : S → SocketAddr → List ℕ → S → Type 0) (waits : S → S → Type 0)
    (more : (s t u : S) → waits s t → waits t u → waits s u) where
  hears_later : (s t u : S) (sender : SocketAddr) (bytes : List ℕ) → waits s t
      → HearsFrom brings waits t sender bytes u → HearsFrom brings waits s sender bytes u
  hears_later s t u sender bytes w h = record {
    mid = h.mid;
    waited = more s t h.mid w h.waited;
    brought = h.brought;
  }

  meets_later : (rule : SortingRule) (s t u : S) (k : Kept) (fate : Fate) → waits s t
      → Meets brings waits rule t k fate u → Meets brings waits rule s k fate u
  meets_later rule s t u k (HandedOn sender bytes highest) w m =
      (hears_later s t u sender bytes w m.0, m.1, m.2, m.3)
  meets_later rule s t u k (Foreign sender bytes) w m =
      (hears_later s t u sender bytes w m.0, m.1)
  meets_later rule s t u k (Withheld sender bytes) w m =
      (hears_later s t u sender bytes w m.0, m.1, m.2)
  meets_later rule s t u k (Held sender bytes) w m =
      (hears_later s t u sender bytes w m.0, m.1, m.2)
  meets_later rule s t u k (Released highest) w m = (more s t u w m.0, m.1, m.2)

  meets_all_later : (rule : SortingRule) (s t u : S) (k : Kept) (fates : List Fate) → waits s t
      → MeetsAll brings waits rule t k fates u → MeetsAll brings waits rule s k fates u
  meets_all_later rule s t u k [] w m = more s t u w m
  meets_all_later rule s t u k (x ∷ xs) w m = (m.0, meets_later rule s t m.0 k x w m.1, m.2)

  meets_more : (rule : SortingRule) (s t u : S) (k : Kept) (xs ys : List Fate)
      → MeetsAll brings waits rule s k xs t
      → MeetsAll brings waits rule t (kept_after_all k xs) ys u
      → MeetsAll brings waits rule s k (xs ++ ys) u
  meets_more rule s t u k [] ys a b = meets_all_later rule s t u k ys a b
  meets_more rule s t u k (x ∷ xs) ys a b =
      (a.0, a.1, meets_more rule a.0 t u (kept_after k x) xs ys a.2 b)

  pub has_met_more : (rule : SortingRule) (s t u : S) (k l m : Kept) (xs ys : List (List ℕ))
      → HasMet brings waits rule s k xs t l → HasMet brings waits rule t l ys u m
      → HasMet brings waits rule s k (xs ++ ys) u m
  has_met_more rule s t u k l m xs ys a b = record {
    fates = a.fates ++ b.fates;
    met =
        meets_more rule s t u k a.fates b.fates a.met
        (subst (λ (x : Kept). MeetsAll brings waits rule t x b.fates u) a.kept b.met);
    kept =
        b.kept ∙ ap (λ (x : Kept). kept_after_all x b.fates) a.kept
        ∙ sym (all_kept_more k a.fates b.fates);
    handed_on =
        ap (λ (z : List (List ℕ)). z ++ ys) a.handed_on
        ∙ ap (λ (z : List (List ℕ)). all_handed_on k a.fates ++ z) b.handed_on
        ∙ ap (λ (x : Kept). all_handed_on k a.fates ++ all_handed_on x b.fates) a.kept
        ∙ sym (all_handed_on_more k a.fates b.fates);
  }

  pub brings_more : (l m n : UdpLineState S) (xs ys : List (List ℕ))
      → HasBrought brings waits l xs m → HasBrought brings waits m ys n
      → HasBrought brings waits l (xs ++ ys) n
  brings_more l m n xs ys a b =
      let later : HasMet brings waits (sorting_of l) m.socket m.kept b.handed_on n.socket n.kept =
      subst (λ (rule : SortingRule). HasMet brings waits rule m.socket m.kept b.handed_on n.socket
      n.kept) a.sorting b.met in
      record {
        venue = b.venue ∙ a.venue;
        sorting = b.sorting ∙ a.sorting;
        handed_on = a.handed_on ++ b.handed_on;
        met =
            has_met_more (sorting_of l) l.socket m.socket n.socket l.kept m.kept n.kept
            a.handed_on b.handed_on a.met later;
        all =
            sym (append_assoc l.waiting a.handed_on b.handed_on)
            ∙ ap (λ (z : List (List ℕ)). z ++ b.handed_on) a.all
            ∙ append_assoc xs m.waiting b.handed_on
            ∙ ap (λ (z : List (List ℕ)). xs ++ z) b.all
            ∙ sym (append_assoc xs ys n.waiting);
      }

module _ {S : Type 0} (brings : S → SocketAddr → List ℕ → S → Type 0) (waits : S → S → Type 0)
    (waits_not : (s : S) → waits s s) where
  pub brings_nothing : (l : UdpLineState S) → HasBrought brings waits l [] l
  brings_nothing l = record {
    venue = refl;
    sorting = refl;
    handed_on = [];
    met = record {
      fates = [];
      met = waits_not l.socket;
      kept = refl;
      handed_on = refl;
    };
    all = append-nil l.waiting;
  }
