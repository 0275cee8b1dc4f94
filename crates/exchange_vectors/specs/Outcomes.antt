-- How the outcome of an exchange is told. Assumes nothing.
use Rattle.std.specs.Prelude.{ℕ, cond, List, [], ◌∷◌, ◌++◌, map, length, Ok, Err, vec_items, vec_len, string_bytes, codes, decimal, Result, ◌==◌}
use Rattle.harq.specs.declared.refusals.Refusal.{Refusal}
use Rattle.harq.specs.Refusals.{number_of}
use Rattle.gnb.specs.declared.counts.Counts.{Counts}
use Rattle.gnb.specs.declared.grants.GrantEntry.{GrantEntry}
use Rattle.gnb.specs.declared.marks.Mark.{Mark}
use Rattle.gnb.specs.declared.marks.Marks.{Marks}
use Rattle.gnb.specs.declared.marks.Marks.TheVariants.{One, Two}
use Rattle.gnb.specs.Marks.{mark_number}
use Rattle.replay.specs.declared.playing.Played.{Played}

-- the word of an answer, or minus the refusal's number
abbrev pub answer_text : {X : Type 0} → (X → List ℕ) → Result X Refusal → List ℕ
answer_text word (Ok x) = word x
answer_text word (Err e) = codes "-" ++ decimal (number_of e)

abbrev pub mark_text : Mark → List ℕ
mark_text m = decimal (mark_number m)

-- a digit for each block
abbrev pub marks_text : Marks → List ℕ
marks_text (One m) = mark_text m
marks_text (Two m n) = mark_text m ++ mark_text n

-- each word behind what stands between two
abbrev pub each_behind : List ℕ → List (List ℕ) → List ℕ
each_behind between [] = []
each_behind between (w ∷ ws) = between ++ (w ++ each_behind between ws)

-- words in a row
abbrev pub joined_by : List ℕ → List (List ℕ) → List ℕ
joined_by between [] = []
joined_by between (w ∷ ws) = w ++ each_behind between ws

-- `-` for nothing
abbrev pub or_dash : List ℕ → List ℕ
or_dash text = cond (length text == 0) (codes "-") text

-- words apart by one space
abbrev pub spaced : List (List ℕ) → List ℕ
spaced [] = []
spaced (w ∷ []) = w
spaced (w ∷ (v ∷ ws)) = w ++ (codes " " ++ spaced (v ∷ ws))

-- both lengths and the bits of the report
abbrev pub report_text : Played → List ℕ
report_text p = spaced (decimal p.exchanged.expected ∷ answer_text decimal p.exchanged.report ∷ or_dash (string_bytes p.digits) ∷ [])

abbrev pub counts_text : Counts → List ℕ
counts_text c = spaced (decimal c.granted ∷ decimal c.delivered ∷ decimal c.negative ∷ decimal c.unanswered ∷ [])

-- the marks of the grants, and their DAI fields
abbrev pub grants_text : List GrantEntry → List ℕ
grants_text sent = or_dash (joined_by (codes ".") (map marks_text (map (λ (e : GrantEntry). e.marks) sent)))

abbrev pub fields_text : List GrantEntry → List ℕ
fields_text sent = or_dash (joined_by (codes ".") (map decimal (map (λ (e : GrantEntry). e.field) sent)))

-- the marks of the grants and of the SPS entries, and the DAI fields
abbrev pub all_marks_text : Played → List ℕ
all_marks_text p =
    spaced (
    grants_text (vec_items p.sent)
    ∷ or_dash (joined_by [] (map mark_text (vec_items p.marks)))
    ∷ fields_text (vec_items p.sent)
    ∷ [])

abbrev pub rest_text : Played → List ℕ
rest_text p = spaced (report_text p ∷ counts_text p.exchanged.counts ∷ all_marks_text p ∷ [])

-- in front of them what each call answers
abbrev pub outcome_text : Played → List ℕ
outcome_text p =
    cond (vec_len p.answers == 0) (rest_text p) (spaced (joined_by (codes " ") (map (answer_text decimal) (vec_items p.answers)) ∷ rest_text p ∷ []))

abbrev pub declined_text : Refusal → List ℕ
declined_text e = codes "declined " ++ decimal (number_of e)
