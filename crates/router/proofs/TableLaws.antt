-- The table grows by the record of each number that has a first column; with a channel's own arrays these numbers are
-- its nets, and the table is that of the definitions.
use Rattle.std.specs.Prelude.{ℕ, ◌+◌, ◌≤◌, ◌<◌, ◌≡◌, length, get_or, set, eqb}
use Rattle.std.proofs.Common.{arith, sym, ◌∙◌, length-append, take_all, eqb→eq, eq-eqb, ne_eqb}
use Rattle.std.proofs.Math.Path.{refl, ap, subst}
use mathlib.Core.List.{List, [], ◌∷◌, ◌++◌, map, map-append, Memᴰ}
use Rattle.std.proofs.Math.Logic.{⊎_elim}
use Rattle.std.proofs.Math.ListN.{length-map}
use Rattle.std.proofs.lemmas.List.{length-replicate}
use Rattle.std.proofs.Math.Dec.{T}
use Rattle.lists.specs.Lists.{keep, from, up_to, overlay}
use Rattle.lists.specs.Tests.{not-passes, not-fails, equal?}
use Rattle.lists.specs.Members.{up_to-member}
use Rattle.lists.specs.Eaches.{few-kept}
use Rattle.lists.specs.Overlays.{stored_next}
use Rattle.lists.specs.Tallies.{keep_same}
use Rattle.lists.specs.Updates.{map_same, keep-next-passes, keep-next-fails}
use Rattle.refusal.specs.Trays.{record_tray}
use Rattle.grid.specs.declared.Column.{Column}
use Rattle.grid.specs.declared.Track.{Track}
use Rattle.grid.specs.Pieces.{column, track, net}
use Rattle.grid.specs.Numbers.{column_numbers, track_numbers, column-at, track-at}
use Rattle.channel.specs.Channel.{Channel, highest_net, is_net, nets}
use Rattle.channel.specs.Answers.{Escapes}
use Rattle.channel.specs.Spans.{each512, Spans, spans, SpansFound}
use Rattle.channel.proofs.SpanLaws.{nets→}
use Rattle.leftedge.specs.declared.NetRecord.{NetRecord}
use Rattle.leftedge.specs.Items.{Place, track_of}
use Rattle.leftedge.specs.Nets.{record_of, records}
use Rattle.drawing.specs.Code.{column_in}
use Rattle.drawing.proofs.CodeLaws.{track-is, first-is, last-is, spans→net, spans→none}
use Rattle.router.specs.Tables.{record_at, has_first, records_to, records_by, nobody, no_records, Listed}

-- what typed arrays have of number n
pub made-at : (first last : List Column) (tracks : List Track) (n : ℕ)
    → record_at (spans (column_numbers first) (column_numbers last)) (track_numbers tracks) n
    ≡ record { number = net n; first = get_or first n (column 0); last = get_or last n (column 0); track = get_or tracks n (track 0) }
unfolding record_at
made-at first last tracks n = rw (column-at first n, column-at last n, track-at tracks n) refl

module _ (s : Spans) (tracks : List ℕ) where
  pub none_made : records_to s tracks 0 ≡ []
  unfolding records_to keep from
  none_made = refl

  module _ (k : ℕ) where
    pub few-made : length (records_to s tracks k) ≤ k
    unfolding records_to
    few-made = omega (arith, length-map (keep (has_first s) (up_to k)) (record_at s tracks), few-kept (has_first s) k)

    -- one number further
    pub one-made : (column_in s.first (k + 1) ≡ 0 → ⊥)
        → records_to s tracks (k + 1) ≡ records_to s tracks k ++ (record_at s tracks (k + 1) ∷ [])
    unfolding records_to
    one-made h =
        let c = column_in s.first (k + 1) in
        let passes = not-passes (eqb c 0) (λ t. h (eqb→eq c 0 t)) in
        ap (map (record_at s tracks)) (keep-next-passes (has_first s) k passes)
        ∙ map-append (record_at s tracks) (keep (has_first s) (up_to k)) ((k + 1) ∷ [])

    pub no-more-made : column_in s.first (k + 1) ≡ 0 → records_to s tracks (k + 1) ≡ records_to s tracks k
    unfolding records_to
    no-more-made h =
        let zero = subst (λ (x : ℕ). T (eqb x 0)) (sym h) tt in
        ap (map (record_at s tracks))
        (keep-next-fails (has_first s) k (λ t. not-fails (eqb (column_in s.first (k + 1)) 0) t zero))

-- a table with no record, and one stored just behind the front
pub listed-none : {table : List NetRecord} → table ≡ no_records → Listed [] table 0
listed-none e = record { counted = refl; laid = e }

pub listed_next : {made table : List NetRecord} {count : ℕ} (r : NetRecord) → Listed made table count
    → count < record_tray → Listed (made ++ (r ∷ [])) (set table count r) (count + 1)
unfolding no_records
listed_next {made} {table} {count} r l h =
    let c = l.counted in
    let more = length-append made (r ∷ []) in
    let before = l.laid ∙ ap over (sym (take_all record_tray made (omega arith))) in
    let put = stored_next no_records made r record_tray (length-replicate record_tray nobody) before in
    record {
      counted = omega arith;
      laid = rw l.counted put ∙ ap over (take_all record_tray (made ++ (r ∷ [])) (omega arith));
    }
  where
    over : List NetRecord → List NetRecord
    over front = overlay front no_records

module _ (ch : Channel) (esc : Escapes ch) (s : Spans) (found : SpansFound ch s) where
  -- the numbers with a first column are the nets
  firsts-nets : keep (has_first s) (up_to highest_net) ≡ nets ch
  unfolding nets
  firsts-nets = keep_same (has_first s) (is_net ch) (up_to highest_net) tests
    where
      tests : (n : ℕ) → Memᴰ n (up_to highest_net) → has_first s n ≡ is_net ch n
      tests n m =
          let r = up_to-member highest_net m in
          let c = column_in s.first n in
          ⊎_elim (λ z. rw (eq-eqb c 0 z) (sym (spans→none ch esc s found n r.1 z)))
          (λ z. rw (ne_eqb c 0 z) (sym (spans→net ch esc s found n r.1 z))) (equal? c 0)

  pub made-records : (ps : List Place) (tracks : List ℕ) → tracks ≡ each512 (track_of ps)
      → records_by s tracks ≡ records ch ps
  unfolding records_to records record_at record_of
  made-records ps tracks e =
      ap (map (record_at s tracks)) firsts-nets ∙ map_same (record_at s tracks) (record_of ch ps) (nets ch) same
    where
      same : (n : ℕ) → Memᴰ n (nets ch) → record_at s tracks n ≡ record_of ch ps n
      same n m =
          let low = (nets→ ch n m).low in
          rw (first-is ch esc s found n low, last-is ch esc s found n low, track-is tracks ps e n low)
