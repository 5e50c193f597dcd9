-- The report, queue by queue.
use Rattle.stream_script.proofs.Prelude.{ℕ, List, ◌≡◌, suc, ◌+◌, ◌<◌, ◌≤◌, ◌++◌, length, get_or, drop, ap, ◌∙◌, append_assoc, add-one, append-nil, drop_all, PlainPartition, drop-read}
use Rattle.stream_script.specs.Report.{queue_report, report_from, report_of}

-- This text stands behind what was there, and with the lines of the queues from this one on behind it,
-- it is the report.
pub record ReportsSoFar (old now : List ℕ) (queue : ℕ) (partitions : List PlainPartition) : Type 0 where
  pub text : List ℕ
  pub appended : now ≡ old ++ text
  pub goes_on : text ++ report_from queue (drop queue partitions) ≡ report_of partitions

-- the lines of one queue more
pub report_more : (old now after : List ℕ) (queue : ℕ) (partitions : List PlainPartition) (p : PlainPartition) → queue < length partitions → p ≡ get_or partitions queue p
    → ReportsSoFar old now queue partitions → after ≡ now ++ queue_report queue p → ReportsSoFar old after (queue + 1) partitions
report_more old now after queue partitions p within read so_far more =
    let lines = queue_report queue p in
    let left = report_from (suc queue) (drop (queue + 1) partitions) in
    let whole : so_far.text ++ (lines ++ left) ≡ report_of partitions = rw (drop-read partitions queue p within read) at so_far.goes_on in
    record {
      text = so_far.text ++ lines;
      appended = more ∙ ap (λ bytes. bytes ++ lines) so_far.appended ∙ append_assoc old so_far.text lines;
      goes_on = ap (λ (n : ℕ). (so_far.text ++ lines) ++ report_from n (drop (queue + 1) partitions)) (add-one queue) ∙ append_assoc so_far.text lines left ∙ whole;
    }

-- all queues
pub report_done : (old now : List ℕ) (queue : ℕ) (partitions : List PlainPartition) → length partitions ≤ queue → ReportsSoFar old now queue partitions → now ≡ old ++ report_of partitions
report_done old now queue partitions all so_far =
    so_far.appended ∙ ap (λ text. old ++ text) (rw (drop_all queue partitions all, append-nil so_far.text) at so_far.goes_on)
