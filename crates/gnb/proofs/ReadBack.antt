-- The DAI fields of accepted grants are read back. Assumes nothing.
use Rattle.std.proofs.Common.{◌≡◌, ℕ, ◌+◌, true, cond, List, [], ◌∷◌, length, is_some, Some, None, Option, refl, ap, ◌∙◌, arith}
use Rattle.std.specs.List.{AllByRecursion}
use Rattle.std.proofs.lemmas.Bool.Decides.{nat_tests}
use Rattle.dai.specs.declared.Layout.{Layout}
use Rattle.dai.specs.declared.Layout.TheVariants.{One, Two, Four}
use Rattle.dai.specs.Values.{value}
use Rattle.dai.specs.Fields as field
use Rattle.dai.specs.Fields.{has_total, reading}
use Rattle.dai.proofs.Returns.{numbers_return}
use Rattle.harq.specs.declared.configs.Config.{Config}
use Rattle.harq.specs.Words.{with_some}
use Rattle.harq.specs.Configs.{span, layout_of, total_there}
use Rattle.gnb.specs.declared.batches.BatchState.{BatchState}
use Rattle.gnb.specs.declared.grants.Grant.{Grant}
use Rattle.gnb.specs.Calls.{field_by}
use Rattle.gnb.specs.Sending.{Call, assignments, ReadsBack, AllReadBack, FieldsReadBack}
use Rattle.gnb.specs.Opening.{fresh_batch}
use Rattle.gnb.proofs.Accepted.{AllGranted, after_call, AllTaken, accepted_taken}

-- a layout that a configuration gives has the configuration's span
pub span_of_layout : (g : Config) (format : ℕ) (l : Layout) → layout_of g format ≡ Some l → field.span l ≡ span g
span_of_layout g format One is = grind (arith, nat_tests)
span_of_layout g format Two is = grind (arith, nat_tests)
span_of_layout g format Four is = grind (arith, nat_tests)

-- what is coded by a layout of that span is read back
read_back : (s k total : ℕ) (o : Option Layout) → is_some o ≡ true → ((l : Layout) → o ≡ Some l → field.span l ≡ s) →
    with_some o (λ l. reading l (field_by o k total)) ≡ Some (value s k, cond (total_there o) (Some (value s total)) None)
read_back s k total None there spans = let z : ◌≡◌ {A = ℕ} 0 1 = cc in absurd (omega arith)
read_back s k total (Some l) there spans =
    numbers_return l k total ∙ ap (λ n. Some (value n k, cond (has_total l) (Some (value n total)) None)) (spans l refl)

pub call_read_back : (g : Config) (m lowest total n : ℕ) (gs : List Grant) → AllGranted g m lowest gs →
    AllByRecursion (ReadsBack g total) (assignments g m total n gs)
call_read_back g m lowest total n [] all = tt
call_read_back g m lowest total n (a ∷ gs) all = (
  read_back (span g) (n + 1) total (layout_of g a.format) all.0.laid (span_of_layout g a.format),
  call_read_back g m (a.cell + 1) total (n + 1) gs all.1,
)

pub calls_read_back : (b : BatchState) (table : ℕ) (cs : List Call) → AllTaken b table cs → AllReadBack b.config b.numbered cs
calls_read_back b table [] all = tt
calls_read_back b table (c ∷ cs) all = (
  call_read_back b.config c.occasion 0 (b.numbered + length c.grants) b.numbered c.grants all.0.each,
  calls_read_back (after_call b c) table cs all.1,
)

pub fields_read_back : FieldsReadBack
fields_read_back g sps table calls =
    calls_read_back (fresh_batch g sps) table _ (accepted_taken (fresh_batch g sps) table calls)
