-- What a slice holds where another was copied into a part of it, as `copy_from_slice` and `fill` leave it.
use Rattle.std.specs.Prelude.{ℕ, ◌+◌, ◌++◌, ◌≤◌, ◌≡◌, List, length}
use Rattle.std.proofs.Common.{arith, ap, refl, sym, ◌∙◌, append_assoc, take, drop}
use borrow.Rule.Slice.PartMut.{put_mid}
use Rattle.std.proofs.lemmas.Slice.{put_mid-paste}
use Rattle.lists.specs.Lists.{overlay}
use Rattle.std.proofs.lemmas.List.Edits.{sets, sets-eq, paste_all}

-- a part of k places from i on that now holds xs
pub part_is_sets : {A : Type 0} (b now xs : List A) (i k : ℕ) → now ≡ xs → k ≡ length xs → i + length xs ≤ length b
    → put_mid i k b now ≡ sets b i xs
part_is_sets b now xs i k e f h =
    put_mid-paste i k b now xs (length xs) e (sym f) refl
    ∙ (paste_all b i xs (length xs) refl
    ∙ (sym (append_assoc (take i b) xs (drop (i + length xs) b)) ∙ sym (sets-eq xs b i h)))

-- the front of a buffer that now holds a row
pub front_is_overlay : {A : Type 0} (b now xs : List A) (k : ℕ) → now ≡ xs → k ≡ length xs → put_mid 0 k b now ≡ overlay xs b
front_is_overlay b now xs k e f =
    put_mid-paste 0 k b now xs (length xs) e (sym f) refl
    ∙ (paste_all b 0 xs (length xs) refl ∙ ap (λ (n : ℕ). xs ++ drop n b) (omega arith))
