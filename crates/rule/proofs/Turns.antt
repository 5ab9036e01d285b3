-- One turn of a list of steps: the step at i is done, and those past it are still to do.
-- Assumes nothing.
use Rattle.std.proofs.Common.{◌≡◌, ℕ, ◌+◌, ◌<◌, List, [], ◌∷◌, ◌++◌, map, length, get_or, take, drop, set, Option, sym, ap, ◌∙◌, subst, ap₂, subst₂, append_assoc, arith}
use Rattle.std.proofs.lemmas.List.{drop_more, drop-set-lt, take_more_set, map_push}
use Rattle.board.specs.State as board
use Rattle.rule.specs.declared.Step.{Step}
use Rattle.rule.specs.Rule.{Place, State, Clear}
use Rattle.rule.specs.Lists.{Question, Told, AllClear, next, final, status_after, outcome, outcomes}
use Rattle.rule.specs.Calls.{question, request, told}
use Rattle.rule.specs.Following.{rule_of, Keeps, Agrees, Follows}

-- after i steps the board and the rule are side by side: what is left gives the last state, and the answers so far with those of what is left are all of them
pub record Playing (first : State) (status : ℕ) (all : List Question) (s : board.State) (steps : List Step) (i : ℕ) : Type 0 where
  pub place : Option Place
  pub keeps : Keeps place s
  pub clear : AllClear (rule_of place s) (map question (drop i steps))
  pub left : final (rule_of place s) (map question (drop i steps)) ≡ final first all
  pub answers : map told (take i steps) ++ outcomes (rule_of place s) s.regs.status (map question (drop i steps)) ≡ outcomes first status all

module _ (steps : List Step) (i : ℕ) (d k : Step) (lt : i < length steps) (same : request k ≡ request (get_or steps i d)) where
  rest : drop (i + 1) (set steps i k) ≡ drop (i + 1) steps
  rest = drop-set-lt (i + 1) steps i k (omega arith)

  split : map question (drop i steps) ≡ question (get_or steps i d) ∷ map question (drop (i + 1) steps)
  split = ap (map question) (drop_more steps i d lt)

  module _ (first : State) (status : ℕ) (all : List Question) (s t : board.State) (so_far : Playing first status all s steps i) (follows : Follows (question (get_or steps i d)) s k.answer (question k) t) where
    abbrev q : Question
    q = question (get_or steps i d)

    abbrev here : State
    here = rule_of so_far.place s

    now_clear : Clear here q.call
    now_clear = (subst (AllClear here) split so_far.clear).0

    agrees : Agrees so_far.place q s k.answer (question k) t
    agrees = follows so_far.place so_far.keeps now_clear

    said : told k ≡ outcome here s.regs.status q
    said = λ j. record { question = record { call = same j; bytes = agrees.bytes_are j }; answer = agrees.answer_is j }

    answers_more : map told (take (i + 1) (set steps i k)) ++ outcomes (rule_of (next here q).place t) t.regs.status (map question (drop (i + 1) (set steps i k))) ≡ outcomes first status all
    answers_more =
        let front : List Told = map told (take i steps) in
        let later : List Told = outcomes (next here q) (status_after here q.call s.regs.status) (map question (drop (i + 1) steps)) in
        (λ j. map told (take (i + 1) (set steps i k)) ++ outcomes (agrees.after_is j) (agrees.status_is j) (map question (rest j)))
        ∙ ap (λ (xs : List Step). map told xs ++ later) (take_more_set steps i k lt)
        ∙ ap (λ (xs : List Told). xs ++ later) (map_push told (take i steps) k)
        ∙ append_assoc front (told k ∷ []) later
        ∙ ap (λ (o : Told). front ++ (o ∷ later)) said
        ∙ ap (λ (xs : List Question). front ++ outcomes here s.regs.status xs) (sym split)
        ∙ so_far.answers

    pub playing_more : Playing first status all t (set steps i k) (i + 1)
    playing_more = record {
      place = (next here q).place;
      keeps = agrees.keeps;
      clear = subst₂ (λ (u : State) (xs : List Step). AllClear u (map question xs)) (sym agrees.after_is) (sym rest) (subst (AllClear here) split so_far.clear).1;
      left = ap₂ (λ (u : State) (xs : List Step). final u (map question xs)) agrees.after_is rest ∙ ap (final here) (sym split) ∙ so_far.left;
      answers = answers_more;
    }
