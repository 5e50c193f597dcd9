use Rattle.activation_directory.proofs.OnePermit.{one-permit}
use Rattle.activation_directory.proofs.laws.one_permit_at_a_time.Goals as goal

pub returns : goal.returns
returns c = one-permit
