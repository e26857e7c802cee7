-- A draft is the first 4,096 words of the lent memory: what it answers is read in them alone, and what a call changes
-- is changed in them alone.
use Rattle.std.specs.Prelude.{ℕ, ◌+◌, ◌-◌, ◌*◌, ◌/◌, ◌%◌, ◌≤◌, ◌≡◌, List, ◌++◌, cond, eqb, length, get_or, take, drop}
use Rattle.std.proofs.Common.{arith, ap, sym, ◌∙◌, ext_get_or, length-take-le}
use Rattle.std.proofs.lemmas.List.{get_or-take, get_or-drop, get_or-append_right, drop-take, take-take, length-append, length-drop}
use Rattle.std.proofs.Math.Decide.{dec_lt}
use Rattle.std.proofs.Math.ListN.{get_or-append}
use Rattle.lists.specs.Lists.{up_to, within, greatest}
use Rattle.lists.specs.Tests.{fails→false, within→, and_right}
use Rattle.lists.specs.Members.{from_member}
use Rattle.lists.specs.Tallies.{any_same}
use Rattle.lists.specs.Updates.{map_same}
use Rattle.refusal.specs.Trays.{draft_tray}
use Rattle.channel.specs.Channel.{highest_net, widest}
use Rattle.draft.specs.Marks.{LongDraft, InDraft, IsColumn, is_set, word_of, marked, is_here, marks_of, column_words, count_of}
use Rattle.draft.specs.Marks.{greatest_of, is_word_of, changed}
use Rattle.draft.specs.MarkLaws.{word-changed, length-changed}
use Rattle.draft.specs.CountLaws.{count-inside}

module _ (words : List ℕ) where
  abbrev front : List ℕ
  front = take draft_tray words

  front-marked : (n c : ℕ) → InDraft n c → marked front c n ≡ marked words c n
  unfolding marked
  front-marked n c inside = ap (λ (w : ℕ). is_set w (n % 64)) (get_or-take draft_tray words (word_of c n) 0 (omega arith))

  pub front-here : (n : ℕ) → n ≤ highest_net → is_here front n ≡ is_here words n
  unfolding is_here
  front-here n net =
      any_same (λ c. marked front c n) (λ c. marked words c n) (up_to widest)
      (λ c m. let r = from_member 1 widest m in front-marked n c (net, (omega arith, omega arith)))

  pub front-marks : (c : ℕ) → IsColumn c → column_words front c ≡ column_words words c
  front-marks c column =
      let k = (c - 1) * 8 in
      let size : draft_tray ≡ k + (draft_tray - k) = omega arith in
      ap (λ (n : ℕ). take 8 (drop k (take n words))) size
      ∙ (ap (take 8) (drop-take k (draft_tray - k) words) ∙ take-take 8 (draft_tray - k) (drop k words) (omega arith))

  pub front-greatest : greatest_of front ≡ greatest_of words
  unfolding greatest_of
  front-greatest =
      ap greatest (map_same (count_of front) (count_of words) (up_to widest)
      (λ c m. let r = from_member 1 widest m in
      let column : IsColumn c = (omega arith, omega arith) in
      count-inside front c column ∙ (ap marks_of (front-marks c column) ∙ sym (count-inside words c column))))

  pub front-changed : LongDraft words → (f : ℕ → ℕ) (n first last : ℕ) → last ≤ widest
      → changed f n first last front ++ drop draft_tray words ≡ changed f n first last words
  front-changed long f n first last few =
      ext_get_or 0 (changed f n first last front ++ drop draft_tray words) (changed f n first last words)
      (rest ∙ sym (length-changed f n first last words))
      (λ i below. elim (dec_lt i draft_tray) [
        | yes inside ↦ (get_or-append (changed f n first last front) (drop draft_tray words) 0 i (omega (arith, size))
            ∙ (word-changed f n first last front i (omega (arith, length-take-le draft_tray words long))
            ∙ (ap (λ (w : ℕ). cond (is_word_of n first last i) (f w) w) (get_or-take draft_tray words i 0 inside)
            ∙ sym (word-changed f n first last words i (omega (arith, long))))))
        | no out ↦ (get_or-append_right (changed f n first last front) (drop draft_tray words) draft_tray i 0 size (omega arith)
            ∙ (get_or-drop draft_tray words (i - draft_tray) 0 ∙ (ap (λ (k : ℕ). get_or words k 0) (again i (omega arith))
            ∙ sym (word-changed f n first last words i (omega (arith, rest, below)) ∙ outside i (omega arith)))))
      ])
    where
      size : length (changed f n first last front) ≡ draft_tray
      size = length-changed f n first last front ∙ length-take-le draft_tray words long

      behind : length (drop draft_tray words) ≡ length words - draft_tray
      behind = length-drop draft_tray words

      again : (i : ℕ) → draft_tray ≤ i → draft_tray + (i - draft_tray) ≡ i
      again i h = omega arith

      rest : length (changed f n first last front ++ drop draft_tray words) ≡ length words
      rest = omega (arith, size, behind, long, length-append (changed f n first last front) (drop draft_tray words))

      outside : (i : ℕ) → draft_tray ≤ i
          → cond (is_word_of n first last i) (f (get_or words i 0)) (get_or words i 0) ≡ get_or words i 0
      outside i h =
          rw (fails→false (is_word_of n first last i)
          (λ t. let w = within→ first (i / 8 + 1) last (and_right (eqb (i % 8) (n / 64)) (within first (i / 8 + 1) last) t) in omega (arith, w.1)))
