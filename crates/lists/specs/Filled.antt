-- Places that nothing has been put into: document 01's "all of them filled with 4,294,967,295".
use Rattle.std.specs.Prelude.{List, ℕ, replicate}

-- what such a place holds
abbrev pub empty : ℕ
empty = 4_294_967_295

abbrev pub filled : ℕ → List ℕ
filled m = replicate m empty
