-- What stands in a job, read off its fields.
use Rattle.std.specs.Prelude.{ℕ}
use Rattle.limits.specs.declared.Limit.{Limit}
use Rattle.limits.specs.declared.drafts.Draft.{Draft}
use Rattle.limits.specs.declared.drafts.Side.{Side}
use Rattle.tables.specs.Chains.{room}
use Rattle.jobs.specs.Books.{limits_of}
use Rattle.jobs.specs.Calls.{Standing, standing}
use Rattle.jobs.specs.declared.Job.{Job}

-- the number of parts and the standing limits
abbrev pub stands : Job → Standing
stands j = standing j.parts (limits_of j.ledger.records j.ledger.count)

-- the node places that count
abbrev pub places : Job → ℕ
places j = room j.table

-- the limit that a draft becomes
abbrev pub limit_from : Draft → Side → Limit
limit_from d s = record { coefficients = d.coefficients; sense = s.sense; bound = s.bound }
