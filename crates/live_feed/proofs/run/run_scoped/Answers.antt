use denote.Exit.{no}
use denote.Param.Always.{Once-at_one}
use denote.Param.Send.{param_send, param_sync, arg_send, arg_sync}
use Rattle.live_feed.proofs.run.run_scoped.Goals as goal

-- the closure may be called: what it requires holds, and what it captures may go to a thread
pub scoped-requires : goal.scoped-requires
scoped-requires g c =
    let b = c.type_bounds in
    Once-at_one _ _ (λ scope. (
      c.requires,
      (
        param_send 0 _ (arg_send _ no _ b.send-G),
        param_send 1 _ (arg_send _ no _ b.send-N),
        param_send 2 _ (arg_send _ no _ b.send-S),
        param_send 4 _ (arg_send _ no _ b.send-W),
        param_sync 0 _ (arg_sync _ no _ b.sync-G),
        param_sync 1 _ (arg_sync _ no _ b.sync-N),
        param_sync 5 _ (arg_sync _ no _ b.sync-R),
      ),
    ))
