-- The code's sums and loops give what the definitions say: four words and four more are eight; a column more is looked
-- at or changed in each turn, before which its word is as it was.
use Rattle.std.specs.Prelude.{ℕ, suc, ◌+◌, ◌/◌, ◌%◌, ◌≤◌, ◌<◌, ◌≡◌, List, Bool, false, cond, length, get_or, set, take, drop, T, eqb}
use Rattle.std.proofs.Common.{arith, add-one, ◌∙◌, ap, drop-cons, take-add, drop-drop, eqb→eq}
use Rattle.std.proofs.Math.Path.{refl, sym}
use Rattle.std.proofs.Math.Logic.{⊎_elim}
use Rattle.std.specs.Int.Count.{ones}
use Rattle.lists.specs.Lists.{within}
use Rattle.lists.specs.Tests.{T→true, eq→T, fails→false, false→fails, same_test, passes?}
use Rattle.lists.specs.Tests.{and_left, and_right, and_both, within→, →within}
use Rattle.lists.specs.Members.{member→any, in-up_to}
use Rattle.lists.specs.Arrays.{numbered}
use Rattle.lists.specs.Updates.{set_gives}
use Rattle.refusal.specs.Trays.{draft_tray}
use Rattle.channel.specs.Channel.{highest_net, widest}
use Rattle.draft.specs.Marks.{
  is_set,
  without_mark,
  word_of,
  marked,
  is_here,
  marks_of,
  changed_at,
  is_word_of,
  changed,
  left_from,
}
use Rattle.draft.specs.BitLaws.{unset-same}
use Rattle.draft.specs.MarkLaws.{word-changed}
use Rattle.draft.specs.CountLaws.{marks-append}

marks-first : (k : ℕ) (ws : List ℕ) (i next : ℕ) → i < length ws → next ≡ i + 1
    → marks_of (take (suc k) (drop i ws)) ≡ ones (get_or ws i 0) + marks_of (take k (drop next ws))
unfolding marks_of
marks-first k ws i next h e = rw (drop-cons ws i 0 h, e, add-one i)

-- the marks of four words from place i on
pub marks-four : (ws : List ℕ) (i : ℕ) → i + 4 ≤ length ws
    → marks_of (take 4 (drop i ws))
    ≡ (ones (get_or ws i 0) + ones (get_or ws (i + 1) 0)) + (ones (get_or ws (i + 2) 0) + ones (get_or ws (i + 3) 0))
unfolding marks_of
marks-four ws i h =
    let a = marks-first 3 ws i (i + 1) (omega arith) refl in
    let b = marks-first 2 ws (i + 1) (i + 2) (omega arith) (omega arith) in
    let c = marks-first 1 ws (i + 2) (i + 3) (omega arith) (omega arith) in
    let d = marks-first 0 ws (i + 3) (i + 4) (omega arith) (omega arith) in
    omega (arith, a, b, c, d)

-- the marks of eight are those of four and of the next four
pub marks-eight : (ws : List ℕ) (i : ℕ)
    → marks_of (take 8 (drop i ws)) ≡ marks_of (take 4 (drop i ws)) + marks_of (take 4 (drop (i + 4) ws))
marks-eight ws i =
    ap marks_of (take-add 4 4 (drop i ws)) ∙ (marks-append (take 4 (drop i ws)) (take 4 (drop 4 (drop i ws)))
    ∙ ap (λ l. marks_of (take 4 (drop i ws)) + marks_of (take 4 l)) (drop-drop 4 i ws))

-- where the words of a net are
module _ (n first last i : ℕ) where
  abbrev own : Bool
  own = eqb (i % 8) (n / 64)

  abbrev over : Bool
  over = within first (i / 8 + 1) last

  word→ : T (is_word_of n first last i) → (i % 8 ≡ n / 64) × (first ≤ i / 8 + 1) × (i / 8 + 1 ≤ last)
  word→ t =
      let w = within→ first (i / 8 + 1) last (and_right own over t) in
      (eqb→eq (i % 8) (n / 64) (and_left own over t), w.0, w.1)

  →word : i % 8 ≡ n / 64 → first ≤ i / 8 + 1 → i / 8 + 1 ≤ last → T (is_word_of n first last i)
  →word e low high = and_both own over (eq→T (i % 8) (n / 64) e) (→within first (i / 8 + 1) last low high)

-- the word and the digit of a net's mark in column c tell whether it is marked there
pub mark-read : (words : List ℕ) (n c : ℕ) {word digit : ℕ} → (word ≡ word_of c n) × (digit ≡ n % 64)
    → is_set (get_or words word 0) digit ≡ marked words c n
unfolding marked
mark-read words n c at = rw (at.0, at.1) refl

-- and a change of that digit is one of the net's word there
pub mark-changed : (f : ℕ → ℕ → ℕ) (words : List ℕ) (n c : ℕ) {word digit : ℕ}
    → (word ≡ word_of c n) × (digit ≡ n % 64)
    → set words word (f digit (get_or words word 0)) ≡ changed_at (f (n % 64)) n c words
mark-changed f words n c at = rw (at.0, at.1) refl

-- the words that are changed, and those that are not
module _ (f : ℕ → ℕ) (n first : ℕ) (words : List ℕ) where
  abbrev word : ℕ → ℕ → ℕ
  word last i = cond (is_word_of n first last i) (f (get_or words i 0)) (get_or words i 0)

  kept_word : (last i : ℕ) → (T (is_word_of n first last i) → ⊥) → word last i ≡ get_or words i 0
  kept_word last i h = rw (fails→false (is_word_of n first last i) h)

  changed-word : (last i : ℕ) → T (is_word_of n first last i) → word last i ≡ f (get_or words i 0)
  changed-word last i t = rw (T→true (is_word_of n first last i) t)

  -- where each word is kept or stays as it is, the memory is as it was
  all-kept : (last : ℕ)
      → ((i : ℕ) → i < length words → T (is_word_of n first last i) → f (get_or words i 0) ≡ get_or words i 0)
      → changed f n first last words ≡ words
  unfolding changed
  all-kept last h =
      sym (numbered (word last) (length words) words refl (λ i below.
      ⊎_elim (λ t. sym (changed-word last i t ∙ h i below t)) (λ out. sym (kept_word last i out))
      (passes? (is_word_of n first last i))))

  pub changed-none : (last : ℕ) → last < first → changed f n first last words ≡ words
  changed-none last h =
      all-kept last (λ i below t. absurd (let w = word→ n first last i t in omega (arith, w.1, w.2)))

  -- one column more
  module _ (c : ℕ) (net : n ≤ highest_net) (few : c < widest) (long : draft_tray ≤ length words) where
    -- before it is changed its word is as it was
    before-change : get_or (changed f n first c words) (word_of (c + 1) n) 0 ≡ get_or words (word_of (c + 1) n) 0
    before-change =
        word-changed f n first c words (word_of (c + 1) n) (omega arith)
        ∙ kept_word c (word_of (c + 1) n) (λ t. let w = word→ n first c (word_of (c + 1) n) t in omega (arith, w.2))

    elsewhere : (i : ℕ) → (i ≡ word_of (c + 1) n → ⊥) → is_word_of n first c i ≡ is_word_of n first (c + 1) i
    elsewhere i apart = same_test (is_word_of n first c i) (is_word_of n first (c + 1) i) later earlier
      where
        later : T (is_word_of n first c i) → T (is_word_of n first (c + 1) i)
        later t = let w = word→ n first c i t in →word n first (c + 1) i w.0 w.1 (omega (arith, w.2))

        earlier : T (is_word_of n first (c + 1) i) → T (is_word_of n first c i)
        earlier t =
            let w = word→ n first (c + 1) i t in
            let e = w.0 in
            let not_last : i / 8 + 1 ≡ c + 1 → ⊥ = λ q. apart (omega arith) in
            →word n first c i e w.1 (omega (arith, w.2, not_last))

    changed-next : first ≤ c + 1
        → set (changed f n first c words) (word_of (c + 1) n) (f (get_or words (word_of (c + 1) n) 0))
        ≡ changed f n first (c + 1) words
    unfolding changed
    changed-next h =
        set_gives (word c) (word (c + 1)) (length words) (word_of (c + 1) n) _ (omega arith)
        (changed-word (c + 1) _ (→word n first (c + 1) (word_of (c + 1) n) (omega arith) (omega arith) (omega arith)))
        (λ k below apart. rw (elsewhere k apart))

    -- a turn of a loop that changes one column after the other
    pub changed-turn : {held : List ℕ} → held ≡ changed f n first c words → first ≤ c + 1
        → changed_at f n (c + 1) held ≡ changed f n first (c + 1) words
    changed-turn e h = rw e (rw before-change (changed-next h))

-- the mark of the column that is changed next is as it was
pub marked-before : (f : ℕ → ℕ) (n first : ℕ) (words : List ℕ) (c : ℕ) → n ≤ highest_net → c < widest
    → draft_tray ≤ length words → marked (changed f n first c words) (c + 1) n ≡ marked words (c + 1) n
unfolding marked
marked-before f n first words c net few long =
    ap (λ w. is_set w (n % 64)) (before-change f n first words c net few long)

-- a net that is marked nowhere leaves the memory as it was
pub nothing_left : (n : ℕ) (words : List ℕ) → n ≤ highest_net → is_here words n ≡ false → left_from n words ≡ words
unfolding is_here marked
nothing_left n words net off =
    all-kept (without_mark (n % 64)) n 1 words widest (λ i below t. unset-same (n % 64) (get_or words i 0) (unset i t))
  where
    unset : (i : ℕ) → T (is_word_of n 1 widest i) → is_set (get_or words i 0) (n % 64) ≡ false
    unset i t =
        let w = word→ n 1 widest i t in
        let e = w.0 in
        let place : word_of (i / 8 + 1) n ≡ i = omega arith in
        fails→false _ (λ set. false→fails _ off (member→any (λ c. is_set (get_or words (word_of c n) 0) (n % 64))
        (in-up_to widest (i / 8 + 1) (omega arith) w.2) (rw place set)))
