-- What a desk's sections show is what the desk shows, and how long that is at most.
use Rattle.std.specs.Prelude.{ℕ, ◌+◌, ◌*◌}
use Rattle.model.specs.Limits.{full}

-- ---- the output is short: each chunk shows at most the source and its own texts

-- the longest output: every chunk with the whole source, and every byte of the store
abbrev pub most_output : ℕ
most_output = full.most_chunks * full.most_source + full.most_bytes
