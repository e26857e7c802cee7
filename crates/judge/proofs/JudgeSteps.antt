-- What the judge answers, test by test, and what its parts ask and leave.
use Rattle.std.specs.Prelude.{ℕ, ◌≤◌, ◌<◌, ◌≡◌, refl, List, [], ◌∷◌, not, length, ltb}
use Rattle.std.proofs.Common.{arith, ◌∙◌, lt→ltb}
use Rattle.std.proofs.Math.Path.{sym, ap, subst}
use mathlib.Core.List.Memᴰ
use Rattle.std.proofs.Math.Logic.{⊎_elim}
use Rattle.std.proofs.Math.Option.{Option, none, some}
use Rattle.std.proofs.Math.Dec.{T, eqb, eqb→eq, eqb_refl}
use Rattle.lists.specs.Lists.{keep}
use Rattle.lists.specs.Tests.{T→true, not-passes, not-fails, passes?}
use Rattle.refusal.specs.declared.Refusal.{Refusal}
use Rattle.refusal.specs.declared.Refusal.TheVariants.{ShortTray, WrongBoard}
use Rattle.refusal.specs.Refusals.{refuse_at_first, ◌or_else◌}
use Rattle.refusal.specs.ChainLaws.{some-or-else, none-or-else-later, some-refuse-if, none-refuse-if, answered-some}
use Rattle.refusal.specs.ChainLaws.{answered-none, ok→none, err→some, or_else_none, refuse-if-none}
use Rattle.refusal.specs.Trays.{Tray, scratch_tray, short_tray}
use Rattle.refusal.specs.TrayLaws.{trays-fit}
use Rattle.channel.specs.Channel.{Channel, width}
use Rattle.channel.specs.Answers.{rows_refusal, rows_answer}
use Rattle.channel.proofs.EscapeLaws.{accepted-exactly}
use Rattle.boardfile.specs.declared.Board.{Board}
use Rattle.boardfile.specs.Open.{file_width, file_tracks, file_count, file_layout, open_refusal, board_of, open_answer}
use Rattle.judge.specs.declared.Fault.{Fault}
use Rattle.std.specs.Prelude.{Some, None, Ok, Err}
use Rattle.judge.specs.declared.JudgeAnswer.{JudgeAnswer}
use Rattle.judge.specs.declared.JudgeAnswer.TheVariants.{Good, Faulty, Refused}
use Rattle.judge.specs.Finding.{finding}
use Rattle.judge.specs.Answers.{wrong_board, judge_refusal, judged, judge_answer}
use Rattle.judge.proofs.OnBytes.{demand2-on-bytes, places-on-bytes}
use Rattle.judge.specs.Code.{Judged, board_refusal, board_answer}
use Rattle.judge.specs.FaultSteps.{found_of}
use Rattle.judge.specs.LineSteps.{Judgeable}

-- what is found, as the answer
pub found_nothing : (t : ℕ) (o : Option Fault) → None ≡ found_of o → Good t ≡ judged t o
unfolding found_of judged
found_nothing t none e = refl
found_nothing t (some f) e = absurd (let z : ◌≡◌ {A = ℕ} 0 1 = cc in omega arith)

pub found-fault : (t : ℕ) (o : Option Fault) (f : Fault) → Some f ≡ found_of o → Faulty f ≡ judged t o
unfolding found_of judged
found-fault t none f e = absurd (let z : ◌≡◌ {A = ℕ} 0 1 = cc in omega arith)
found-fault t (some g) f e = let q : f ≡ g = cc in ap Faulty q

-- what opening a board for rows answers, test by test
module _ (ch : Channel) (board : List ℕ) where
  board-refused : {r : Refusal} → board_refusal ch board ≡ some r → Err r ≡ board_answer ch board
  unfolding board_answer
  board-refused e = sym (answered-some Err (board_refusal ch board) (Ok (board_of board)) _ e)

  pub board-rows : {r : Refusal} → Err r ≡ rows_answer ch → Err r ≡ board_answer ch board
  unfolding rows_answer
  board-rows e = board-refused (some-or-else (rows_refusal ch) _ _ (err→some tt (rows_refusal ch) (sym e)))

  module _ (accepted : Ok tt ≡ rows_answer ch) where
    past-rows : board_refusal ch board ≡ (open_refusal board or_else wrong_board ch board)
    unfolding rows_answer
    past-rows = none-or-else-later (rows_refusal ch) _ (ok→none tt (rows_refusal ch) (sym accepted)).0

    pub board-open : {r : Refusal} → Err r ≡ open_answer board → Err r ≡ board_answer ch board
    unfolding open_answer
    board-open e =
        board-refused (past-rows ∙ some-or-else (open_refusal board) _ _ (err→some _ (open_refusal board) (sym e)))

    module _ {opened : Board} (e : Ok opened ≡ open_answer board) where
      opens : (open_refusal board ≡ none) × (board_of board ≡ opened)
      unfolding open_answer
      opens = ok→none (board_of board) (open_refusal board) (sym e)

      width_is : opened.width ≡ file_width board
      width_is = ap (λ (b : Board). b.width) (sym opens.1)

      past_open : board_refusal ch board ≡ wrong_board ch board
      past_open = past-rows ∙ none-or-else-later (open_refusal board) (wrong_board ch board) opens.0

      pub board-width : (opened.width ≡ width ch → ⊥) → Err (WrongBoard opened.width) ≡ board_answer ch board
      unfolding wrong_board
      board-width out =
          let test = eqb (file_width board) (width ch) in
          ap (λ (j : ℕ). Err (WrongBoard j)) width_is ∙ board-refused (past_open
          ∙ some-refuse-if (not test) (WrongBoard (file_width board))
          (not-passes test (λ x. out (width_is ∙ eqb→eq (file_width board) (width ch) x))))

      pub board-good : opened.width ≡ width ch → Ok opened ≡ board_answer ch board
      unfolding wrong_board board_answer
      board-good same =
          let test = eqb (file_width board) (width ch) in
          let fits = none-refuse-if (not test) (WrongBoard (file_width board))
          (λ x. not-fails test x (subst (λ (j : ℕ). T (eqb (file_width board) j)) (sym width_is ∙ same)
          (eqb_refl (file_width board)))) in
          ap Ok (sym opens.1) ∙ sym (answered-none Err (board_refusal ch board) _ (past_open ∙ fits))

module _ (ch : Channel) (board : List ℕ) (n : ℕ) where
  tray : Tray
  tray = record { lent = n; needed = scratch_tray }

  refused : (r : Refusal) → judge_refusal ch board n ≡ some r → Refused r ≡ judge_answer ch board n
  unfolding judge_answer
  refused r e =
      sym (answered-some Refused (judge_refusal ch board n)
      (judged (file_tracks board) (finding ch (file_layout board))) r e)

  pub answer-short : n < scratch_tray → Refused (ShortTray scratch_tray) ≡ judge_answer ch board n
  unfolding judge_refusal short_tray keep refuse_at_first
  answer-short h =
      refused (ShortTray scratch_tray) (some-or-else (short_tray (record { lent = n; needed = scratch_tray } ∷ []))
      (board_refusal ch board) (ShortTray scratch_tray) (rw (T→true (ltb n scratch_tray) (lt→ltb n scratch_tray h))))

  module _ (room : scratch_tray ≤ n) where
    pub past-short : judge_refusal ch board n ≡ board_refusal ch board
    unfolding judge_refusal tray
    past-short =
        none-or-else-later (short_tray (tray ∷ [])) (board_refusal ch board)
        ((trays-fit (tray ∷ [])).1 (λ b m. ⊎_elim (λ e. subst (λ (t : Tray). t.needed ≤ t.lent) (sym e) room)
        (λ z. absurd (Memᴰ.not-nil z)) (Memᴰ.cases_cons m)))

    pub answer-refused : {r : Refusal} → Err r ≡ board_answer ch board → Refused r ≡ judge_answer ch board n
    unfolding board_answer
    answer-refused e = refused _ (past-short ∙ err→some _ (board_refusal ch board) (sym e))

    -- a board that is open for the rows
    module _ {opened : Board} (e : Ok opened ≡ board_answer ch board) where
      silent : (board_refusal ch board ≡ none) × (board_of board ≡ opened)
      unfolding board_answer
      silent = ok→none (board_of board) (board_refusal ch board) (sym e)

      pub answer-found : {r : JudgeAnswer} → r ≡ judged opened.tracks (finding ch (file_layout board))
          → r ≡ judge_answer ch board n
      unfolding judge_answer
      answer-found d =
          d ∙ ap (λ (b : Board). judged b.tracks (finding ch (file_layout board))) (sym silent.1)
          ∙ sym (answered-none Refused (judge_refusal ch board n) _ (past-short ∙ silent.0))

      pub case-ready : Judgeable ch board opened.tracks × (opened.count ≡ file_count board)
      unfolding wrong_board
      case-ready =
          let rows-pass = or_else_none (rows_refusal ch) (open_refusal board or_else wrong_board ch board) silent.0 in
          let later = or_else_none (open_refusal board) (wrong_board ch board) rows-pass.1 in
          let test = eqb (file_width board) (width ch) in (
            record {
              escapes = (accepted-exactly ch).0 rows-pass.0;
              opens = later.0;
              same_width = ⊎_elim (λ t. eqb→eq (file_width board) (width ch) t)
                  (λ f. absurd (refuse-if-none (not test) _ later.1 (not-passes test f))) (passes? test);
              tracks = ap (λ (b : Board). b.tracks) (sym silent.1);
            },
            ap (λ (b : Board). b.count) (sym silent.1),
          )

-- the answer is all that the promise asks
pub judged-well : (ch : Channel) (board scratch scratch' : List ℕ) (r : JudgeAnswer)
    → r ≡ judge_answer ch board (length scratch) → length scratch' ≡ length scratch → Judged ch board scratch r scratch'
judged-well ch board scratch scratch' r e kept =
    let n = length scratch in
    record {
      answer = e;
      passes = rw e (demand2-on-bytes ch board n);
      places = λ h. rw e (places-on-bytes ch board n h);
      kept = kept;
    }
