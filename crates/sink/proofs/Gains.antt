-- A run of bits is taken one after the other. Assumes nothing.
use Rattle.std.proofs.Common.{◌≡◌, ℕ, ◌-◌, ◌<◌, Bool, List, [], ◌∷◌, ◌++◌, sym, ap, ◌∙◌, subst, arith}
use Rattle.std.proofs.lemmas.List.{append-nil, append_assoc, length-append}
use Rattle.sink.specs.Gains.{Gains}
use Rattle.sink.specs.Sink.{gained}
use Rattle.sink.proofs.Laws.{gained_room}

module _ {S : Type 0} (taken : S → List Bool) (room : S → ℕ) (took : S → List Bool → S → Type 0) where
  -- no bit
  pub gains_none : (s : S) → Gains taken room took s [] s
  gains_none s = record {
    list = sym (append-nil (taken s));
    left = omega arith;
    on = λ first more t. subst (λ (l : List Bool). took first l s) (sym (append-nil more)) t;
  }

  -- one bit, as `put` takes it where there is room
  pub gains_one : (s t : S) (bit : Bool) → 0 < room s → taken t ≡ gained (room s) (taken s) bit → room t ≡ room s - 1 →
      ((first : S) (bits : List Bool) → took first bits s → took first (gained (room s) bits bit) t) → Gains taken room took s (bit ∷ []) t
  gains_one s t bit some list left on = record {
    list = list ∙ gained_room (room s) (taken s) bit some;
    left = omega arith;
    on = λ first more h. subst (λ (l : List Bool). took first l t) (gained_room (room s) more bit some) (on first more h);
  }

  -- one run behind another
  pub gains_more : (s t u : S) (xs ys : List Bool) → Gains taken room took s xs t → Gains taken room took t ys u → Gains taken room took s (xs ++ ys) u
  gains_more s t u xs ys a b = record {
    list = b.list ∙ ap (λ (l : List Bool). l ++ ys) a.list ∙ append_assoc (taken s) xs ys;
    left = let l = length-append xs ys in omega (arith, a.left, b.left);
    on = λ first more h. subst (λ (l : List Bool). took first l u) (append_assoc more xs ys) (b.on first (more ++ xs) (a.on first more h));
  }
