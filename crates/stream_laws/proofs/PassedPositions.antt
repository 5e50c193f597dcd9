-- Positions that every open subscription has passed.
use Rattle.stream_laws.proofs.Prelude.{◌≡◌, ℕ, ◌+◌, ◌*◌, ◌≤◌, true, Some, arith, least_with, SubName, BLOCK_EVENTS, open_resumes, sub_at, free_blocks, PlainPartition, Subscription}
use Rattle.stream_laws.proofs.Invariant.{Fits}
use Rattle.stream_laws.proofs.OpenResumes.{least-resume-le, least_with-first, low-moved-le, slowest-le}
use Rattle.stream_laws.proofs.Summary.{Summary}

-- no open subscription has its resume below this position, nor does the cache end there
pub record IsPassed (p : PlainPartition) (low : ℕ) : Type 0 where
  pub high : low ≤ p.high
  pub resumes : (s : SubName) (r : Subscription) → sub_at p s ≡ Some r → r.is_open ≡ true → low ≤ r.resume

-- the position after blocks that are free
pub passed-free : (t : Summary) (p : PlainPartition) (blocks : ℕ) → Fits t p → blocks ≤ free_blocks p → IsPassed p (p.low + BLOCK_EVENTS * blocks)
passed-free t p blocks fits free =
    record {
      high = low-moved-le p blocks p.high free fits.log.low_high (omega arith);
      resumes = λ s r found is_open.
          let slow = slowest-le p s r found is_open in
          let resume = ((fits.subs s r found).served is_open).low_resume in
          low-moved-le p blocks r.resume free resume (omega arith);
    }

-- the least resume of an open subscription, or the end of the cache where that is less
pub passed-least : (p : PlainPartition) → IsPassed p (least_with p.high (open_resumes p))
passed-least p = record { high = least_with-first p.high (open_resumes p); resumes = least-resume-le p }
