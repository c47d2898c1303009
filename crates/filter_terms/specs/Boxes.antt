-- What a stored closure in a box may answer, by what the closures may that the box can hold.
use Rattle.std.specs.Fn.{Mut, Shared}
use Rattle.std.specs.declared.dyn_box.DynBox.{DynBox}
use Rattle.std.specs.declared.alloc.Global.{Global}
use denote.Param.Callables.{along_fn, along_mut}

-- of a box that is called and stays unchanged
abbrev pub in_box : {g : Type 0} {F : g → Type 0} {A R : Type 0}
    → Shared ((x : g) × F x) A R → Shared (DynBox g Global F) A R
in_box m = along_fn (λ b. (b.vtable, b.value)) m

-- of a box that changes with each call
abbrev pub in_box_mut : {g : Type 0} {F : g → Type 0} {A R : Type 0}
    → Mut ((x : g) × F x) A R → Mut (DynBox g Global F) A R
in_box_mut m = along_mut (λ b. (b.vtable, b.value)) m
