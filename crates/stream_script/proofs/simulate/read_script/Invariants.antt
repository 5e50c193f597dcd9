use Rattle.stream_script.proofs.Prelude.{◌≡◌, ◌≤◌, ◌-◌, vec_len, Consumes}
use Rattle.stream_script.proofs.simulate.read_script.Given as goal

-- what was read so far
abbrev pub invariant-loop-script : goal.invariant-loop-script
invariant-loop-script g l = record {
  failures : g.R.Source.failures l.source ≡ g.R.Source.failures l.fn.source;
  read : Consumes (g.R.Source.remaining l.fn.source) (g.R.Source.remaining l.source) l.script.items;
  within : vec_len l.script ≤ 4194305;
  buffer : vec_len l.buffer ≡ 65536;
}

abbrev pub decreases-loop-script : goal.decreases-loop-script
decreases-loop-script g l = 4194305 - vec_len l.script
