-- What an answer that is an enum says: for each case a number, as document 01 has it, and the values that go with it.
use Rattle.std.specs.Prelude.{◌≡◌, List, ℕ}

pub record Said : Type 0 where
  pub number : ℕ
  pub values : List ℕ

-- THE PROMISE of a function whose answer `r` is to be `d`: it says the same, and is the same
pub record Answers {A : Type 0} (said : A → Said) (d r : A) : Type 0 where
  pub says : said r ≡ said d
  pub answer : r ≡ d
