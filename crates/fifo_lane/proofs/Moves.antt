-- Each step of a lane keeps the rule of its queue, and shows what it has to show.
use Rattle.std.proofs.Common.{◌≡◌, ◌≢◌, ℕ, zero, suc, ◌≤◌, arith, true, true≢false, List, [], ◌∷◌, ◌++◌, length, length-append, set, sym, refl, ap, ◌∙◌, subst, ⊎_elim, append_assoc}
use mathlib.Core.Option.{some, some-ne-none}
use lib.ListN.{get_elem?}
use Rattle.crossbeam_queue.specs.Fifo.{Pushes, Pops, Forks, Merges, Learns}
use Rattle.crossbeam_queue.proofs.Lists.{at_set, at_snoc}
use Rattle.fifo_lane.specs.declared.known.Known.{Known}
use Rattle.fifo_lane.specs.Lane.{Keeps}
use Rattle.fifo_lane.specs.Passes.{first, sending, receiving, joined, spent, with_sent, with_received, FitsPass, IsLane}

module _ {T : Type 0} where
  -- a view that is in a longer list and not in the shorter one is at its end
  at_end : (l : List (Known T)) (a b : Known T) (j : ℕ) → get_elem? l j ≢ some b
      → get_elem? (l ++ a ∷ []) j ≡ some b → j ≡ length l
  at_end [] a b zero n e = refl
  at_end [] a b (suc j) n e = absurd (some-ne-none b (sym e))
  at_end (x ∷ xs) a b zero n e = absurd (n e)
  at_end (x ∷ xs) a b (suc j) n e = ap suc (at_end xs a b j n e)

  -- a fact of each view and its port
  abbrev AllViews : (ℕ → Known T → Type 0) → List (Known T) → Type 0
  AllViews F views = (port : ℕ) (v : Known T) → get_elem? views port ≡ some v → F port v

  AllViews-set : (F : ℕ → Known T → Type 0) (views : List (Known T)) (port : ℕ) (w : Known T)
      → F port w
      → ((j : ℕ) (u : Known T) → j ≢ port → get_elem? views j ≡ some u → F j u)
      → AllViews F (set views port w)
  AllViews-set F views port w mine others j u e =
      ⊎_elim (λ (x : (j ≡ port) × (w ≡ u)). subst (λ (y : ℕ × Known T). F y.0 y.1)
      (λ i. (sym x.0 i, x.1 i)) mine)
      (λ (x : (j ≢ port) × (get_elem? views j ≡ some u)). others j u x.0 x.1)
      (at_set views port j w u e)

  none_left : (xs ys zs : List T) → xs ≡ ys ++ zs → xs ≡ [] → ys ≡ [] → zs ≡ []
  none_left xs ys zs e f g = ap (λ l. l ++ zs) (sym g) ∙ sym e ∙ f

  module _ (may : ℕ → List T → Type 0) where
    pub makes : ((tag : ℕ) → may tag []) → IsLane may [] (first ∷ [])
    makes empty = record {
      sender = 0;
      receiver = 0;
      tag = 0;
      capacity = 0;
      sent = [];
      received = [];
      keeps = record { whole = refl; room = omega arith; ruled = empty 0 };
      fits = AllViews-set (FitsPass 0 0 0 0 [] []) (first ∷ []) 0 first
          (record {
            sends = λ _. (refl, refl, refl, refl);
            receives =
                λ _. (refl, refl, refl, refl);
          })
          (λ j u other e. absurd (other (at_end [] _ u j (λ x. some-ne-none u (sym x)) e)));
    }

    pub parts : ((tag : ℕ) → may tag []) → (tag capacity port : ℕ) (v : Known T) → v ≡ first
        → Forks (IsLane may) port v (sending tag capacity v.sent)
        (receiving tag capacity v.received)
    parts empty tag capacity port v is items views h at =
        let l : Known T = sending tag capacity v.sent in
        let r : Known T = receiving tag capacity v.received in
        let mine = h.fits port v at in
        let a : v.may_push ≡ true = ap (λ (u : Known T). u.may_push) is in
        let b : v.may_pop ≡ true = ap (λ (u : Known T). u.may_pop) is in
        let none_sent : v.sent ≡ [] = ap (λ (u : Known T). u.sent) is in
        let none_received : v.received ≡ [] = ap (λ (u : Known T). u.received) is in
        let nothing : items ≡ [] = none_left h.sent h.received items h.keeps.whole
        (sym (mine.sends a).3 ∙ none_sent) (sym (mine.receives b).3 ∙ none_received) in
        let vs : List (Known T) = set views port l in
        let Old : ℕ → Known T → Type 0 = λ j u. (u.may_push ≡ true → (j ≡ h.sender) × (u.tag ≡ tag)
        × (u.capacity ≡ capacity) × (u.sent ≡ [])) × (u.may_pop ≢ true) in
        let old : AllViews Old vs = AllViews-set Old views port l
        ((λ _. ((mine.sends a).0, refl, refl, none_sent)), λ p. true≢false (sym p))
        (λ j u other e. (
          (λ p. absurd (other (((h.fits j u e).sends p).0 ∙ sym (mine.sends a).0))),
          λ p. other (((h.fits j u e).receives p).0 ∙ sym (mine.receives b).0),
        )) in
        record {
          sender = h.sender;
          receiver = length vs;
          tag = tag;
          capacity = capacity;
          sent = [];
          received = [];
          keeps = record {
            whole = sym nothing;
            room = let n : length items ≡ 0 = ap length nothing
                in omega arith;
            ruled = empty tag;
          };
          fits = λ j u e. ⊎_elim (λ x. record {
            sends = (old j u x).0;
            receives =
                λ p. absurd ((old j u x).1 p);
          })
              (λ (at_last : r ≡ u). record {
                sends = λ p. absurd
                    (true≢false (sym (ap (λ (y : Known T). y.may_push) at_last ∙ p)));
                receives = λ p. (
                  at_end vs r u j (λ x. (old j u x).1 p) e,
                  ap (λ (y : Known T). y.tag) (sym at_last),
                  ap (λ (y : Known T). y.capacity)
                      (sym at_last),
                  ap (λ (y : Known T). y.received) (sym at_last) ∙ none_received,
                );
              }) (at_snoc vs r u j e);
        }

    pub pushes : (n port : ℕ) (v : Known T) (x : T) → v.may_push ≡ true → v.capacity ≡ n
        → may v.tag (v.sent ++ x ∷ []) → Pushes (IsLane may) n port v x (λ w. w ≡ with_sent v x)
    pushes n port v x can size ok items views room h at =
        let w : Known T = with_sent v x in
        let mine = h.fits port v at in
        let me = mine.sends can in
        let sent : List T = h.sent ++ x ∷ [] in
        let same : v.sent ++ x ∷ [] ≡ sent = ap (λ l. l ++ x ∷ []) me.3 in
        let within : length (items ++ x ∷ []) ≤ h.capacity =
        omega (arith, length-append items (x ∷ []), me.2, size) in (
          w,
          record {
            sender = h.sender;
            receiver = h.receiver;
            tag = h.tag;
            capacity = h.capacity;
            sent = sent;
            received = h.received;
            keeps = record {
              whole = ap (λ l. l ++ x ∷ []) h.keeps.whole ∙ append_assoc h.received items (x ∷ []);
              room = within;
              ruled = subst (λ (y : ℕ × List T). may y.0 y.1) (λ i. (me.1 i, same i)) ok;
            };
            fits = AllViews-set (FitsPass h.sender h.receiver h.tag h.capacity sent h.received)
                views port w (record {
                  sends = λ _. (me.0, me.1, me.2, same);
                  receives = mine.receives;
                })
                (λ j u other e. record {
                  sends = λ p. absurd (other (((h.fits j u e).sends p).0
                      ∙ sym me.0));
                  receives = (h.fits j u e).receives;
                });
          },
          refl,
        )

    -- no more is inside than the sender has sent
    pub sender_learns : (port : ℕ) (v : Known T) → v.may_push ≡ true
        → Learns (IsLane may) port v (λ inside. length inside ≤ length v.sent)
    sender_learns port v can items views h at =
        let sent = ap length (((h.fits port v at).sends can).3 ∙ h.keeps.whole) in
        omega (arith, sent, length-append h.received items)

    pub joins : (port : ℕ) (v : Known T) (other : ℕ) (u : Known T) → v.may_push ≡ true
        → u.may_pop ≡ true → Merges (IsLane may) port v other u (joined v u) spent
    joins port v other u a b items views h at two at' =
        let both : Known T = joined v u in
        let mine = h.fits port v at in
        let vs : List (Known T) = set views port both in
        let was : get_elem? views other ≡ some u = ⊎_elim (λ x. absurd (two x.0)) (λ x. x.1)
        (at_set views port other both u at') in
        let theirs = (h.fits other u was).receives b in
        let Now : ℕ → Known T → Type 0 = λ j y. j ≢ other → FitsPass h.sender port h.tag h.capacity
        h.sent h.received j y in
        let now : AllViews Now vs = AllViews-set Now views port both
        (λ _. record {
          sends = λ _. mine.sends a;
          receives = λ _. (
            refl,
            (mine.sends a).1,
            (mine.sends a).2,
            theirs.3,
          );
        })
        (λ j y _ e apart. record {
          sends = (h.fits j y e).sends;
          receives =
              λ p. absurd (apart (((h.fits j y e).receives p).0 ∙ sym theirs.0));
        }) in
        record {
          sender = h.sender;
          receiver = port;
          tag = h.tag;
          capacity = h.capacity;
          sent = h.sent;
          received = h.received;
          keeps = h.keeps;
          fits = AllViews-set (FitsPass h.sender port h.tag h.capacity h.sent h.received) vs other
              spent
              (record {
                sends = λ p. absurd (true≢false (sym p));
                receives =
                    λ p. absurd (true≢false (sym p));
              }) (λ j y apart e. now j y e apart);
        }

    -- what both ends together know of the items inside
    pub both_learn : (port : ℕ) (v : Known T) → v.may_push ≡ true → v.may_pop ≡ true
        → Learns (IsLane may) port v (λ inside. Keeps may v.tag v.capacity v.sent v.received inside)
    both_learn port v a b items views h at =
        let me = (h.fits port v at).sends a in
        let got = (h.fits port v at).receives b in
        subst (λ (y : ℕ × ℕ × List T × List T). Keeps may y.0 y.1 y.2 y.3 items)
        (λ i. (sym me.1 i, sym me.2 i, sym me.3 i, sym got.3 i)) h.keeps

    module _ (prefix : (tag : ℕ) (xs ys : List T) → may tag (xs ++ ys) → may tag xs) where
      -- what was received obeys the lane's rule
      pub receiver_learns : (port : ℕ) (v : Known T) → v.may_pop ≡ true
          → Learns (IsLane may) port v (λ inside. may v.tag v.received)
      receiver_learns port v can items views h at =
          let me = (h.fits port v at).receives can in
          let begun : may h.tag h.received = prefix h.tag h.received items (subst (λ l. may h.tag l)
          h.keeps.whole h.keeps.ruled) in
          subst (λ (y : ℕ × List T). may y.0 y.1) (λ i. (sym me.1 i, sym me.3 i)) begun

      pub pops : (port : ℕ) (v : Known T) → v.may_pop ≡ true
          → Pops (IsLane may) port v (λ x w. (w ≡ with_received v x)
          × may v.tag (v.received ++ x ∷ []))
      pops port v can x items views h at =
          let w : Known T = with_received v x in
          let mine = h.fits port v at in
          let me = mine.receives can in
          let received : List T = h.received ++ x ∷ [] in
          let same : v.received ++ x ∷ [] ≡ received = ap (λ l. l ++ x ∷ []) me.3 in
          let whole : h.sent ≡ received ++ items = h.keeps.whole
          ∙ sym (append_assoc h.received (x ∷ []) items) in
          let begun : may h.tag received = prefix h.tag received items (subst (λ l. may h.tag l)
          whole h.keeps.ruled) in
          let within : length items ≤ h.capacity = let r = h.keeps.room in omega arith in (
            w,
            record {
              sender = h.sender;
              receiver = h.receiver;
              tag = h.tag;
              capacity = h.capacity;
              sent = h.sent;
              received = received;
              keeps = record { whole = whole; room = within; ruled = h.keeps.ruled };
              fits = AllViews-set (FitsPass h.sender h.receiver h.tag h.capacity h.sent received)
                  views port w (record {
                    sends = mine.sends;
                    receives =
                        λ _. (me.0, me.1, me.2, same);
                  })
                  (λ j u other e. record {
                    sends = (h.fits j u e).sends;
                    receives =
                        λ p. absurd (other (((h.fits j u e).receives p).0 ∙ sym me.0));
                  });
            },
            (refl, subst (λ (y : ℕ × List T). may y.0 y.1) (λ i. (sym me.1 i, sym same i)) begun),
          )

      pub drains : (port : ℕ) (v : Known T) → v.may_push ≡ true → v.may_pop ≡ true
          → Pops (IsLane may) port v (λ x w. (w ≡ with_received v x)
          × ((rest : List T) × (v.sent ≡ v.received ++ x ∷ rest)))
      drains port v a b x items views h at =
          let p = pops port v b x items views h at in
          (p.0, p.1, (p.2.0, (items, (both_learn port v a b (x ∷ items) views h at).whole)))
