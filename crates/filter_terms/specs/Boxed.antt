-- For callers: a boxed closure keeps limits where each code that the box may hold does.
use Rattle.std.proofs.Common.{◌≡◌, Bor}
use Rattle.std.specs.Fn.{Called, Mut}
use Rattle.std.specs.declared.dyn_box.DynBox.{DynBox}
use Rattle.std.specs.declared.alloc.Global.{Global}
use Rattle.std.proofs.lemmas.List.Sorted.{answers_always}
use denote.Param.Members.{mut_of}
use Rattle.feed_types.specs.declared.journal.Notice.{Notice}
use Rattle.filter_terms.specs.declared.advice.Advice.{Advice}
use Rattle.filter_terms.specs.declared.advice.Limits.{Limits}
use Rattle.filter_terms.specs.Allowed.{IsAllowed}
use Rattle.filter_terms.specs.StoredStrategies.{AlwaysAllowed}
use Rattle.filter_terms.specs.Boxes.{in_box_mut}

-- what a box of these codes may answer, by what each code may
abbrev pub in_boxes : {I : Type 0} {D : I → Type 0}
    → ((i : I) → Mut (D i) (Bor Notice × Unit {0}) Advice)
    → Mut ((i : I) × D i) (Bor Notice × Unit {0}) Advice
in_boxes {I} {D} M =
    mut_of (λ z. (M z.0).pre z.1)
    (λ z a r z'. (v : D z.0) × Called (M z.0) z.1 a r v × (z' ≡ (z.0, v)))

-- each advice is allowed, if each code's is, whatever state it is in
pub boxed_allowed : {I : Type 0} {D : I → Type 0}
    (M : (i : I) → Mut (D i) (Bor Notice × Unit {0}) Advice) (limits : Limits)
    → ((i : I) (p q : D i) (n : Bor Notice) (r : Advice)
    → Called (M i) p (n, tt) r q → IsAllowed limits n.now r)
    → (start : DynBox I Global D) → AlwaysAllowed (in_box_mut (in_boxes M)) limits start
boxed_allowed M limits right start =
    answers_always (in_box_mut (in_boxes M)) _ start
    (λ f a r f' called. right f.vtable f.value called.met.0 a.0 r called.met.1)
