-- Each operation keeps what holds.
use Rattle.stream_laws.proofs.Prelude.{Op, PlainPartition}
use Rattle.stream_model.specs.declared.op.Op.TheVariants as op
use Rattle.stream_model.specs.Step.{step}
use Rattle.stream_laws.proofs.Invariant.{Fits, Kept}
use Rattle.stream_laws.proofs.KeptAck.{kept-ack}
use Rattle.stream_laws.proofs.KeptAddRule.{kept-add_rule}
use Rattle.stream_laws.proofs.KeptBegin.{kept-begin}
use Rattle.stream_laws.proofs.KeptCommit.{kept-commit}
use Rattle.stream_laws.proofs.KeptDeactivate.{kept-deactivate}
use Rattle.stream_laws.proofs.KeptDeliver.{kept-deliver}
use Rattle.stream_laws.proofs.KeptLooks.{kept-due, kept-quiet, kept-ready}
use Rattle.stream_laws.proofs.KeptMove.{kept-move}
use Rattle.stream_laws.proofs.KeptPublish.{kept-publish}
use Rattle.stream_laws.proofs.KeptPull.{kept-pull}
use Rattle.stream_laws.proofs.KeptPurge.{kept-purge}
use Rattle.stream_laws.proofs.KeptRetry.{kept-retry}
use Rattle.stream_laws.proofs.KeptSubscribe.{kept-subscribe}
use Rattle.stream_laws.proofs.KeptUnsubscribe.{kept-unsubscribe}
use Rattle.stream_laws.proofs.Summary.{Summary}

pub kept-step : (t : Summary) (p : PlainPartition) (o : Op) → Fits t p → Kept t o (step p o)
unfolding step
kept-step t p (op.Publish stream payloads) fits = kept-publish t p stream payloads fits
kept-step t p (op.Subscribe stream grain start) fits = kept-subscribe t p stream grain start fits
kept-step t p (op.Unsubscribe sub) fits = kept-unsubscribe t p sub fits
kept-step t p (op.AddRule kind namespace) fits = kept-add_rule t p kind namespace fits
kept-step t p (op.Pull generation max_events) fits = kept-pull t p generation max_events fits
kept-step t p (op.Deliver generation sub) fits = kept-deliver t p generation sub fits
kept-step t p (op.Retry generation sub) fits = kept-retry t p generation sub fits
kept-step t p (op.Ack generation sub token) fits = kept-ack t p generation sub token fits
kept-step t p (op.Purge generation keep) fits = kept-purge t p generation keep fits
kept-step t p (op.Begin grain max_events) fits = kept-begin t p grain max_events fits
kept-step t p (op.Commit grain activation turn note) fits = kept-commit t p grain activation turn note fits
kept-step t p (op.Deactivate grain) fits = kept-deactivate t p grain fits
kept-step t p (op.Move silo) fits = kept-move t p silo fits
kept-step t p (op.Ready after) fits = kept-ready t p fits after
kept-step t p (op.Due after) fits = kept-due t p fits after
kept-step t p op.Quiet fits = kept-quiet t p fits
