-- Demand 2 on board files of any bytes: the judge passes exactly the files that open, have the rows' width and hold a
-- good layout, and answers the faults of other layouts at their lowest places.
use Rattle.std.specs.Prelude.{ℕ, ◌≤◌, ◌<◌, ◌≡◌, List, [], ◌∷◌, ◌↔◌, not}
use Rattle.std.proofs.Common.{arith, sym, eqb→eq}
use Rattle.std.proofs.Math.Path.{refl, subst}
use mathlib.Core.List.Memᴰ
use Rattle.std.proofs.Math.Logic.{⊎_elim}
use Rattle.std.proofs.Math.Logic.Iff as Iff
use Rattle.std.proofs.Math.Option.{Option, none, some, none-ne-some}
use Rattle.std.proofs.Math.Dec.{T, eqb, eqb_refl}
use Rattle.lists.specs.Tests.{not-passes, not-fails, equal?}
use Rattle.refusal.specs.declared.Refusal.{Refusal}
use Rattle.refusal.specs.Refusals.{◌or_else◌, answered}
use Rattle.refusal.specs.ChainLaws.{or_else_none, none-or-else, refuse-if-none, none-refuse-if}
use Rattle.refusal.specs.Trays.{Tray, scratch_tray, short_tray}
use Rattle.refusal.specs.TrayLaws.{trays-fit, refusal-numbered}
use Rattle.grid.specs.Pieces.{OnGrid}
use Rattle.channel.specs.Channel.{Channel, width}
use Rattle.channel.specs.Answers.{rows_refusal, Escapes}
use Rattle.channel.proofs.EscapeLaws.{accepted-exactly}
use Rattle.wiring.specs.Layouts.{AllOnGrid}
use Rattle.boardfile.specs.Open.{open_refusal, file_width, file_tracks, file_layout}
use Rattle.boardfile.specs.FieldLaws.{opened-on-grid}
use Rattle.judge.specs.declared.Fault.{Fault}
use Rattle.judge.specs.declared.Fault.TheVariants.{Short, Open, Floating}
use Rattle.judge.specs.declared.JudgeAnswer.TheVariants.{Faulty, Refused}
use Rattle.judge.specs.Finding.{finding}
use Rattle.judge.specs.Answers.{wrong_board, judge_refusal, judged, judge_answer, fault_number, judge_told}
use Rattle.judge.specs.Promise.{JudgePromise, FaultsAnswered, Demand2OnBytes}
use Rattle.judge.proofs.Demand2.{demand2}

pub fault-between : (f : Fault) → (11 ≤ fault_number f) × (fault_number f ≤ 13)
unfolding fault_number
fault-between (Short p) = (omega arith, omega arith)
fault-between (Open p) = (omega arith, omega arith)
fault-between (Floating i) = (omega arith, omega arith)

pub fault-numbered : (f : Fault) → 0 < fault_number f
fault-numbered f = let b = fault-between f in omega arith

module _ (ch : Channel) (board : List ℕ) (scratch : ℕ) where
  abbrev tray : Tray
  tray = record { lent = scratch; needed = scratch_tray }

  -- what holds where nothing is refused
  pub record Unrefused : Type 0 where
    pub room : scratch_tray ≤ scratch
    pub escapes : Escapes ch
    pub opens : open_refusal board ≡ none
    pub same_width : file_width board ≡ width ch

  pub unrefused→ : judge_refusal ch board scratch ≡ none → Unrefused
  unfolding judge_refusal wrong_board
  unrefused→ h =
      let later = rows_refusal ch or_else open_refusal board or_else wrong_board ch board in
      let a = or_else_none (short_tray (tray ∷ [])) later h in
      let b = or_else_none (rows_refusal ch) (open_refusal board or_else wrong_board ch board) a.1 in
      let c = or_else_none (open_refusal board) (wrong_board ch board) b.1 in
      let test = eqb (file_width board) (width ch) in
      let apart : (file_width board ≡ width ch → ⊥) → T (not test) =
      λ o. not-passes test (λ t. o (eqb→eq (file_width board) (width ch) t)) in
      record {
        room = (trays-fit (tray ∷ [])).0 a.0 tray (Memᴰ.head refl);
        escapes = (accepted-exactly ch).0 b.0;
        opens = c.0;
        same_width =
            ⊎_elim (λ e. e) (λ o. absurd (refuse-if-none (not test) _ c.1 (apart o)))
            (equal? (file_width board) (width ch));
      }

  →unrefused : Unrefused → judge_refusal ch board scratch ≡ none
  unfolding judge_refusal wrong_board
  →unrefused u =
      none-or-else (short_tray (tray ∷ [])) (rows_refusal ch or_else open_refusal board or_else wrong_board ch board)
      ((trays-fit (tray ∷ [])).1
      (λ b m. ⊎_elim (λ e. subst (λ (t : Tray). t.needed ≤ t.lent) (sym e) u.room)
      (λ z. absurd (Memᴰ.not-nil z)) (Memᴰ.cases_cons m)))
      (none-or-else (rows_refusal ch) (open_refusal board or_else wrong_board ch board)
      ((accepted-exactly ch).1 u.escapes)
      (none-or-else (open_refusal board) (wrong_board ch board) u.opens
      (none-refuse-if (not (eqb (file_width board) (width ch))) _
      (λ t. not-fails (eqb (file_width board) (width ch)) t
      (subst (λ (k : ℕ). T (eqb (file_width board) k)) u.same_width (eqb_refl (file_width board)))))))

  on-grid : Unrefused → AllOnGrid ch (file_layout board)
  unfolding file_layout
  on-grid u p m = subst (λ (w : ℕ). OnGrid w (file_tracks board) p) u.same_width (opened-on-grid board u.opens p m)

  promised : Unrefused → JudgePromise ch (file_layout board)
  promised u = demand2 ch (file_layout board) u.escapes (on-grid u)

  -- the answer tells a success exactly if nothing is refused and nothing is found
  clean→ : (judge_told (judge_answer ch board scratch)).number ≡ 0
      → (judge_refusal ch board scratch ≡ none) × (finding ch (file_layout board) ≡ none)
  unfolding judge_answer answered judged judge_told
  clean→ = go (judge_refusal ch board scratch) (finding ch (file_layout board)) refl refl
    where
      go : (r : Option Refusal) (f : Option Fault)
          → judge_refusal ch board scratch ≡ r → finding ch (file_layout board) ≡ f
          → (judge_told (answered Refused r (judged (file_tracks board) f))).number ≡ 0
          → (judge_refusal ch board scratch ≡ none) × (finding ch (file_layout board) ≡ none)
      go none none e₁ e₂ h = (e₁, e₂)
      go none (some f) e₁ e₂ h = let n = fault-numbered f in absurd (omega arith)
      go (some r) f e₁ e₂ h = let n = refusal-numbered r in absurd (omega arith)

  →clean : judge_refusal ch board scratch ≡ none → finding ch (file_layout board) ≡ none
      → (judge_told (judge_answer ch board scratch)).number ≡ 0
  unfolding judge_answer answered judged judge_told
  →clean e₁ e₂ = rw (e₁, answered, e₂, judged)

pub demand2-on-bytes : Demand2OnBytes
demand2-on-bytes ch board scratch = (
  λ h. let c = clean→ ch board scratch h in
      let u = unrefused→ ch board scratch c.0 in
      let good = (promised ch board scratch u).passes.0 c.1 in
      record { room = u.room; escapes = u.escapes; opens = u.opens; same_width = u.same_width; good = good },
  λ p. let u : Unrefused ch board scratch =
      record { room = p.room; escapes = p.escapes; opens = p.opens; same_width = p.same_width } in
      →clean ch board scratch (→unrefused ch board scratch u) ((promised ch board scratch u).passes.1 p.good),
)

-- the answer is a fault exactly if the finding is
judged-faulty : (t : ℕ) (f : Option Fault) (x : Fault) → (judged t f ≡ Faulty x) ↔ (f ≡ some x)
unfolding judged
judged-faulty t none x =
    (λ e. let z : ◌≡◌ {A = ℕ} 0 1 = cc in absurd (omega arith), λ e. absurd (none-ne-some x e))
judged-faulty t (some y) x = (λ e. cc, λ e. cc)

-- what is found in a board that is not refused
pub found-on-bytes : (ch : Channel) (board : List ℕ) (scratch : ℕ) → judge_refusal ch board scratch ≡ none
    → JudgePromise ch (file_layout board)
found-on-bytes ch board scratch h = promised ch board scratch (unrefused→ ch board scratch h)

-- the places of demand 2, on bytes
pub places-on-bytes : (ch : Channel) (board : List ℕ) (scratch : ℕ) → judge_refusal ch board scratch ≡ none
    → FaultsAnswered ch (file_layout board) (judge_answer ch board scratch)
unfolding judge_answer answered
places-on-bytes ch board scratch h =
    record {
      short = λ p. Iff.trans (faulty (Short p)) ((found-on-bytes ch board scratch h).short p);
      opened = λ p. Iff.trans (faulty (Open p)) ((found-on-bytes ch board scratch h).opened p);
      floating = λ i. Iff.trans (faulty (Floating i)) ((found-on-bytes ch board scratch h).floating i);
    }
  where
    faulty : (x : Fault) → (judge_answer ch board scratch ≡ Faulty x) ↔ (finding ch (file_layout board) ≡ some x)
    faulty x = rw h (judged-faulty (file_tracks board) (finding ch (file_layout board)) x)
