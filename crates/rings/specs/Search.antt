-- What the code of the search keeps: for each net number the fewest steps down to one net, and from these the columns
-- that lead there.
use Rattle.std.specs.Prelude.{ℕ, suc, ◌+◌, ◌*◌, ◌≤◌, ◌<◌, ◌≡◌, Bool, cond, ◌&&◌, length, get_or, set, replicate, T, ltb, eqb, Option, MatchOption}
use mathlib.Core.List.{List, [], ◌∷◌, map, Memᴰ}
use Rattle.std.proofs.lemmas.List.Edits.{sets}
use Rattle.lists.specs.Lists.{up_to, at}
use Rattle.lists.specs.Ends.{Rising}
use Rattle.items.specs.Chains.{Chained}
use Rattle.items.specs.Steps.{Stepped}
use Rattle.channel.specs.Channel.{Channel, highest_net}
use Rattle.channel.specs.Constraints.{below}
use Rattle.channel.specs.Parked.{NetsOnly}
use Rattle.leftedge.specs.Ring.{lowest_over}
use Rattle.rings.specs.declared.fewest.Start.{Start}
use Rattle.rings.specs.Fewest.{leads}

-- the numbers that nets can have
abbrev pub numbers : List ℕ
numbers = up_to highest_net

-- distance d noted for each of a list that has none yet
unfoldable pub noted : ℕ → List ℕ → List ℕ → List ℕ
noted d [] far = far
noted d (n ∷ ns) far = cond (eqb (get_or far n 0) 0) (noted d ns (set far n d)) (noted d ns far)

-- those for which it is noted, in that order
unfoldable pub fresh : ℕ → List ℕ → List ℕ → List ℕ
fresh d [] far = []
fresh d (n ∷ ns) far = cond (eqb (get_or far n 0) 0) (n ∷ fresh d ns (set far n d)) (fresh d ns far)

-- the places linked from `start` are places of the row with net numbers, and the queue has room for those noted
pub record CanNote (us next : List ℕ) (start d : ℕ) (far queue : List ℕ) (count : ℕ) : Type 0 where
  pub places : List ℕ
  pub chained : Chained next start places
  pub rising : Rising places
  pub in_row : (c : ℕ) → Memᴰ c places → c ≤ length us
  pub number : (c : ℕ) → Memᴰ c places → at us c < 512
  pub long : length far ≡ 512
  pub room : count + length (fresh d (map (at us) places) far) ≤ length queue

-- what a walk along the places leaves of distances and queue
pub record NoteDone (uppers : List ℕ) (d : ℕ) (far queue : List ℕ) (count : ℕ) (far' queue' : List ℕ) (r : ℕ) : Type 0
  where
    pub notes : far' ≡ noted d uppers far
    pub counts : r ≡ count + length (fresh d uppers far)
    pub queues : queue' ≡ sets queue count (fresh d uppers far)

-- the steps to each net number are linked
pub record StepsKnown (us head next : List ℕ) : Type 0 where
  pub below : ℕ → List ℕ
  pub stepped : Stepped below numbers us head next
  pub long : length head ≡ 512

-- nothing is noted yet
pub record Searchable (us head next : List ℕ) (to : ℕ) (far queue : List ℕ) : Type 0 where
  pub known : StepsKnown us head next
  pub start : Memᴰ to numbers
  pub unknown : far ≡ replicate 512 0
  pub room : length queue ≡ 512

-- d is the fewest steps down, one or more, that lead from a to z; 0 if none do
pub record FewestSteps (below : ℕ → List ℕ) (a z d : ℕ) : Type 0 where
  pub lead : 0 < d → T (leads below d a z)
  pub fewest : (k : ℕ) → T (leads below (suc k) a z) → (0 < d) × (d ≤ suc k)

-- What `way_back` answers: these steps from net n back to itself, or none
abbrev pub StepsBack : (ℕ → List ℕ) → ℕ → Option ℕ → Type 0
StepsBack below n back = MatchOption back (FewestSteps below n n 0) (λ d. (0 < d) × FewestSteps below n n d)

-- What `search` finds: these steps from each number
pub record Searched (below : ℕ → List ℕ) (to : ℕ) (far : List ℕ) : Type 0 where
  pub long : length far ≡ 512
  pub found : (n : ℕ) → FewestSteps below n to (get_or far n 0)

-- What `show_from` is handed: a net from which so many steps, and no fewer, lead back
pub record CanShow (ch : Channel) (head next : List ℕ) (net nets : ℕ) (ring : List ℕ) : Type 0 where
  pub only : NetsOnly ch
  pub stepped : Stepped (below ch) numbers ch.top head next
  pub long : length head ≡ 512
  pub begins : Memᴰ net numbers
  pub back : FewestSteps (below ch) net net nets
  pub some : 0 < nets
  pub few : nets ≤ 511
  pub room : 2 * nets ≤ length ring

-- of the numbers up to `highest` the lowest from which the fewest steps lead back, and these steps, 0 if none lead back
pub record Nearest (below : ℕ → List ℕ) (highest net nets : ℕ) : Type 0 where
  pub inside : 0 < nets → (0 < net) × (net ≤ highest)
  pub lead : 0 < nets → T (leads below nets net net)
  pub fewest : (k n : ℕ) → 0 < n → n ≤ highest → T (leads below (suc k) n n) → (0 < nets) × (nets ≤ suc k)
  pub lowest : (n : ℕ) → 0 < n → n < net → T (leads below nets n n) → nets ≡ 0

-- What `nearest` answers: that number and these steps, or none
abbrev pub NearestOf : (ℕ → List ℕ) → ℕ → Option Start → Type 0
NearestOf below highest found =
    MatchOption found (Nearest below highest 0 0) (λ s. (0 < s.nets) × Nearest below highest s.net s.nets)

-- net b, directly below net a, is one step nearer to `home` than a; the steps from each are in `far`
unfoldable pub nearer : List ℕ → ℕ → ℕ → ℕ → Bool
nearer far home a b =
    cond (eqb b home) (eqb (get_or far a 0) 1)
    (ltb 0 (get_or far b 0) && eqb (get_or far a 0) (suc (get_or far b 0)))

-- the lowest column in which net n is directly above a net that is one step nearer, 0 if there is none
abbrev pub home_column : Channel → List ℕ → ℕ → ℕ → ℕ
home_column ch far home n = lowest_over ch (nearer far home) n
