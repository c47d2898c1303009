use Rattle.message_forms.proofs.OwnForms.{own_or_other}
use Rattle.message_forms.proofs.laws.a_quotation_is_an_own_message.Goals as goal

pub returns-clause-own : goal.returns-clause-own
returns-clause-own c = own_or_other
