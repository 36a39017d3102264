-- What parts reach, by each flag's list, seen from its end.
use Rattle.std.proofs.Common.{◌≡◌, ℕ, suc, ◌+◌, ◌<◌, ◌≤◌, Bool, List, [], ◌∷◌, ◌++◌, length, take, get_or, set, reverse, refl, sym, ap, ap₂, ◌∙◌, arith}
use Rattle.std.proofs.lemmas.List.{length-reverse, length-take-le, reverse-append, take_more, take_more_set}
use Rattle.wot_regex.specs.Reaching.{below, reaches}
use Rattle.wot_regex.specs.declared.reach.Reach.{Reach}

reaches_more : (ps es : List Bool) (p e : Bool) → length ps ≡ length es → reaches (ps ++ p ∷ []) (es ++ e ∷ []) ≡ reaches ps es ++ record { passes = p; ended = e } ∷ []
reaches_more [] [] p e h = refl
reaches_more [] (y ∷ es) p e h = absurd (omega arith)
reaches_more (x ∷ ps) [] p e h = absurd (omega arith)
reaches_more (x ∷ ps) (y ∷ es) p e h = ap (λ (rs : List Reach). record { passes = x; ended = y } ∷ rs) (reaches_more ps es p e (omega arith))

reaches_length : (ps es : List Bool) → length ps ≡ length es → length (reaches ps es) ≡ length ps
reaches_length [] es h = refl
reaches_length (x ∷ ps) [] h = absurd (omega arith)
reaches_length (x ∷ ps) (y ∷ es) h = ap (λ n. suc n) (reaches_length ps es (omega arith))

module _ (ps es : List Bool) (n : ℕ) where
  same_take : n ≤ length ps → n ≤ length es → length (take n ps) ≡ length (take n es)
  same_take le le' = length-take-le n ps le ∙ sym (length-take-le n es le')

  pub stack_length : n ≤ length ps → n ≤ length es → length (reverse (reaches (take n ps) (take n es))) ≡ n
  stack_length le le' = length-reverse (reaches (take n ps) (take n es)) ∙ reaches_length (take n ps) (take n es) (same_take le le') ∙ length-take-le n ps le

  pub stack_room : (stack : List Reach) (most : ℕ) → reverse (reaches (take n ps) (take n es)) ≡ stack → length stack < most → n ≤ length ps → n ≤ length es → n < most
  stack_room stack most is lt le le' =
      let length_is : length stack ≡ n = ap length (sym is) ∙ stack_length le le' in
      omega arith

  stack_more : (p e : Bool) → n ≤ length ps → n ≤ length es → reverse (reaches (take n ps ++ p ∷ []) (take n es ++ e ∷ [])) ≡ record { passes = p; ended = e } ∷ reverse (reaches (take n ps) (take n es))
  stack_more p e le le' = ap reverse (reaches_more (take n ps) (take n es) p e (same_take le le')) ∙ reverse-append (reaches (take n ps) (take n es)) (record { passes = p; ended = e } ∷ [])

  -- one that is pushed
  pub stack_pushed : (p e : Bool) → n < length ps → n < length es → reverse (reaches (take (n + 1) (set ps n p)) (take (n + 1) (set es n e))) ≡ record { passes = p; ended = e } ∷ reverse (reaches (take n ps) (take n es))
  stack_pushed p e lt lt' = ap₂ (λ x y. reverse (reaches x y)) (take_more_set ps n p lt) (take_more_set es n e lt') ∙ stack_more p e (omega arith) (omega arith)

  -- one that is popped
  pub stack_popped : (d d' : Bool) → n < length ps → n < length es
      → reverse (reaches (take (n + 1) ps) (take (n + 1) es)) ≡ record { passes = get_or ps n d; ended = get_or es n d' } ∷ reverse (reaches (take n ps) (take n es))
  stack_popped d d' lt lt' = ap₂ (λ x y. reverse (reaches x y)) (take_more ps n d lt) (take_more es n d' lt') ∙ stack_more (get_or ps n d) (get_or es n d') (omega arith) (omega arith)

  -- one in place of the last
  pub stack_replaced : (p e : Bool) → n < length ps → n < length es
      → reverse (reaches (take (n + 1) (set ps n p)) (take (n + 1) (set es n e))) ≡ record { passes = p; ended = e } ∷ below (reverse (reaches (take (n + 1) ps) (take (n + 1) es)))
  stack_replaced p e lt lt' = stack_pushed p e lt lt' ∙ ap (λ rs. record { passes = p; ended = e } ∷ rs) (sym (ap below (stack_popped p e lt lt')))
