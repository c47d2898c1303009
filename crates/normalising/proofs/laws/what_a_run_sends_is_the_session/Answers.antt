use Rattle.std.proofs.Common.{inl, inr}
use Rattle.normalising.specs.Normalised.{quoted_keys}
use Rattle.normalising.proofs.laws.what_a_run_sends_is_the_session.Goals as goal

pub returns : goal.returns
returns c = λ feed place sendings opening b messages s inputs. elim s.sends [
  | inl none ↦ inl none
  | inr sent ↦ inr (c.what_is_written_is_the_session.ensures (quoted_keys feed) opening b.name
      messages feed.normaliser.window b.packets sent.output _ s.opens s.begins s.answered inputs
      sent.put_out sent.carry sent.heartbeats)
]
