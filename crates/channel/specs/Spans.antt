-- The columns of all net numbers, as the code keeps them in arrays: number n stands at place n, counted from 0.
use Rattle.std.specs.Prelude.{ℕ, ◌≡◌, List, map, cond, get_or, set, eqb}
use Rattle.lists.specs.Lists.{keep, from}
use Rattle.channel.specs.Channel.{Channel, first_column, last_column, spanning}
use Rattle.channel.specs.Parked.{NetsOnly}

-- what a definition gives for each number from 0 to 511
abbrev pub each512 : (ℕ → ℕ) → List ℕ
each512 f = map f (from 0 512)

abbrev pub firsts : Channel → List ℕ
firsts ch = each512 (first_column ch)

abbrev pub lasts : Channel → List ℕ
lasts ch = each512 (last_column ch)

-- a first and a last column for each net number, by its place; column 0 where a number is no net's
pub record Spans : Type 0 where
  pub first : List ℕ
  pub last : List ℕ

abbrev pub spans : List ℕ → List ℕ → Spans
spans first last = record { first = first; last = last }

-- the first and the last column of each net number, by its place
pub record SpansFound (ch : Channel) (s : Spans) : Type 0 where
  pub first : s.first ≡ firsts ch
  pub last : s.last ≡ lasts ch

-- the tables of numbers are those of a channel whose rows show nets only
pub record ColumnsFound (ch : Channel) (first last : List ℕ) : Type 0 where
  pub only : NetsOnly ch
  pub on_first : first ≡ firsts ch
  pub on_last : last ≡ lasts ch

-- the first columns with column c noted for number n, which keeps an earlier one
unfoldable pub first_noted : List ℕ → ℕ → ℕ → List ℕ
first_noted first n c = cond (eqb (get_or first n 0) 0) (set first n c) first

-- the nets with spans that start in column c, lower number first
unfoldable pub starting : Channel → ℕ → List ℕ
starting ch c = keep (λ n. eqb (first_column ch n) c) (spanning ch)
