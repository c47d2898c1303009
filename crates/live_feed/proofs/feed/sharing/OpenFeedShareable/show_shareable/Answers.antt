use mir.Syntax.{Ty}
use Prim.Native.Nat.{ℕ}
use denote.Exit.{Kept}
use denote.RattleType.{RattleType}
use denote.Param.{param, arg}
use denote.Param.Send.{IsSync, param_sync, arg_sync}
use denote.Param.SendFields.{declared_sync}
use Rattle.live_feed.proofs.feed.sharing.OpenFeedShareable.show_shareable.Goals as goal

-- what `show_shared` says of its type argument, of the type itself
shown : (i : ℕ) (δ : Ty) (k : Kept) (R : RattleType) → IsSync (param i (arg δ k R)) → IsSync R
shown i δ k R s = record { shared = s.shared }

pub show_shared_value-requires-sync-T : goal.show_shared_value-requires-sync-T
show_shared_value-requires-sync-T g c κs within =
    search (shown, param_sync, arg_sync, declared_sync) depth 20
