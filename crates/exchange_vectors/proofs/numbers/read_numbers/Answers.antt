use Rattle.std.proofs.Common.{◌≡◌, ◌+◌, [], ◌∷◌, ◌++◌, drop, Some, None, vec_items, sym, ap, ◌∙◌, rules}
use Rattle.std.proofs.lemmas.List.{drop_all}
use Rattle.std.proofs.lemmas.Bool.{eq-eqb, ne_eqb}
use Rattle.exchange_vectors.specs.Numbers.{in_front, if_some, at_end, numbers_from}
use Rattle.exchange_vectors.proofs.Reading.{behind, behind_more, at_space, at_other, at_last}
use Rattle.exchange_vectors.proofs.numbers.read_numbers.Goals as goal
use Rattle.exchange_vectors.proofs.numbers.read_numbers.Goals.{then-c-eq32+in-Some+in_ok-push, else-c-eq32+in-Some-with_digit}

pub returns-in_default : goal.returns-in_default
returns-in_default c =
    let l = c.loop-c in
    let text = c.args.text.now in
    let i = l.c-index in
    sym (l.invariant ∙ ap (behind (vec_items l.numbers)) (
    at_space l.number text i c.loop-c-test.true (eq-eqb _ 32 c.if-c-eq32.true)
    ∙ ap (λ n. in_front n (numbers_from None (drop (i + 1) text))) c.in_default.is))

pub returns-in_default-with_digit : goal.returns-in_default-with_digit
returns-in_default-with_digit c =
    let l = c.loop-c in
    let text = c.args.text.now in
    let i = l.c-index in
    sym (l.invariant ∙ ap (behind (vec_items l.numbers)) (
    at_other l.number text i c.loop-c-test.true (ne_eqb _ 32 c.if-c-eq32.false)
    ∙ ap (λ o. if_some o (λ n. numbers_from (Some n) (drop (i + 1) text))) (sym c.with_digit.ensures ∙ c.in_default-with_digit.is)))

pub loop-c-preserved : goal.loop-c-preserved
loop-c-preserved c =
    let l = c.loop-c in
    let text = c.args.text.now in
    let i = l.c-index in
    let front = vec_items l.numbers in
    let after = drop (i + 1) text in
    elim c.if-c-eq32.branch [
      | then-c-eq32+in-Some+in_ok-push w ↦
          l.invariant
          ∙ ap (behind front) (at_space l.number text i c.loop-c-test.true (eq-eqb _ 32 w.if-c-eq32.true) ∙ ap (λ m. in_front m (numbers_from None after)) w.in-Some.is)
          ∙ behind_more front w.in-Some.n (numbers_from None after)
          ∙ ap (λ xs. behind xs (numbers_from None after)) (sym w.in_ok-push.ensures.items ∙ ap vec_items (sym w.numbers-is))
          ∙ ap (λ m. behind (vec_items c.if-c-eq32.numbers) (numbers_from m after)) (sym w.number-is)
      | else-c-eq32+in-Some-with_digit w ↦
          l.invariant
          ∙ ap (behind front) (at_other l.number text i c.loop-c-test.true (ne_eqb _ 32 w.if-c-eq32.false) ∙ ap (λ o. if_some o (λ n. numbers_from (Some n) after)) (sym w.with_digit.ensures ∙ w.in-Some-with_digit.is))
          ∙ ap (λ xs. behind xs (numbers_from (Some w.in-Some-with_digit.n) after)) (ap vec_items (sym w.numbers-is))
          ∙ ap (λ m. behind (vec_items c.if-c-eq32.numbers) (numbers_from m after)) (sym w.number-is)
    ]

pub returns-in_default-number : goal.returns-in_default-number
returns-in_default-number c =
    let l = c.loop-c in
    let text = c.args.text.now in
    sym (l.invariant ∙ ap (behind (vec_items l.numbers)) (at_last l.number text l.c-index (drop_all l.c-index text c.loop-c-test.false) ∙ ap at_end c.in_default-number.is))

pub returns : goal.returns
returns c =
    let l = c.loop-c in
    let text = c.args.text.now in
    let front = vec_items l.numbers in
    let items : vec_items c.push-2.new.self ≡ front ++ c.in-Some-number.last ∷ [] = search rules in
    sym (l.invariant ∙ ap (behind front) (at_last l.number text l.c-index (drop_all l.c-index text c.loop-c-test.false) ∙ ap at_end c.in-Some-number.is) ∙ ap Some (sym items))
