-- What the judge's first search has seen so far, place by place from 0: whose the marks are.
use Prim.Native.Nat.{ℕ, ◌<◌}
use Rattle.std.specs.Prelude.{◌≡◌, get_or}
use mathlib.Core.List.{List}
use Rattle.channel.specs.Channel.{Channel, positions}

module _ (ch : Channel) (ms : List ℕ) where
  -- the net and the mark at a position counted from 0
  abbrev net_at : ℕ → ℕ
  net_at q = get_or (positions ch) q 0

  abbrev mark_at : ℕ → ℕ
  mark_at q = get_or ms q 0

  -- the owner of a mark, among the pins before place i
  pub record Owner (owners : List ℕ) (i m : ℕ) : Type 0 where
    pub place : ℕ
    pub before : place < i
    pub is_pin : 0 < net_at place
    pub mark : mark_at place ≡ m
    pub net : get_or owners m 0 ≡ net_at place

  -- `owners` has the net of the pins of each mark before place i, 0 where there are none
  pub record Owned (owners : List ℕ) (i : ℕ) : Type 0 where
    pub settled : (q : ℕ) → q < i → 0 < net_at q → get_or owners (mark_at q) 0 ≡ net_at q
    pub owner : (m : ℕ) → (get_or owners m 0 ≡ 0 → ⊥) → Owner owners i m
