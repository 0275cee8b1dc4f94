-- Coding and reading are inverse, in every layout.
use Rattle.std.proofs.Common.{◌<◌, arith}
use Rattle.std.proofs.lemmas.Bool.Decides.{nat_tests}
use Rattle.dai.specs.declared.Layout.{Layout}
use Rattle.dai.specs.declared.Layout.TheVariants.{One, Two, Four}
use Rattle.dai.specs.Values.{value}
use Rattle.dai.specs.Fields.{span}
use Rattle.dai.specs.Laws.{ValuesReturn, NumbersReturn, ValuesRead, FieldsReturn, AcceptedBelow}
use Rattle.dai.proofs.Spans.{value_within}

pub values_return : ValuesReturn
values_return One v t hv ht = grind (arith, nat_tests)
values_return Two v t hv ht = grind (arith, nat_tests)
values_return Four v t hv ht = grind (arith, nat_tests)

span_some : (l : Layout) → 0 < span l
span_some One = omega arith
span_some Two = omega arith
span_some Four = omega arith

pub numbers_return : NumbersReturn
numbers_return l number numbered =
    values_return l (value (span l) number) (value (span l) numbered)
    (value_within (span l) number (span_some l)) (value_within (span l) numbered (span_some l))

pub values_read : ValuesRead
values_read One f v o h = grind (arith, nat_tests)
values_read Two f v o h = grind (arith, nat_tests)
values_read Four f v o h = grind (arith, nat_tests)

pub fields_return : FieldsReturn
fields_return One f v o h t = grind (arith, nat_tests)
fields_return Two f v o h t = grind (arith, nat_tests)
fields_return Four f v o h t = grind (arith, nat_tests)

pub accepted_below : AcceptedBelow
accepted_below One f = grind (arith, nat_tests)
accepted_below Two f = grind (arith, nat_tests)
accepted_below Four f = grind (arith, nat_tests)
