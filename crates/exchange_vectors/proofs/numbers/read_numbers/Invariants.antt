use Rattle.std.proofs.Common.{◌≡◌, drop, vec_items}
use Rattle.exchange_vectors.specs.Numbers.{numbers_in, numbers_from}
use Rattle.exchange_vectors.proofs.Reading.{behind}
use Rattle.exchange_vectors.proofs.numbers.read_numbers.Given as goal

abbrev pub invariant-loop-c : goal.invariant-loop-c
invariant-loop-c l = numbers_in l.text ≡ behind (vec_items l.numbers) (numbers_from l.number (drop l.c-index l.text))
