-- Paths, one behind the other.
use Rattle.std.proofs.Common.{List, [], ◌∷◌, ◌++◌, append-nil, append_assoc, refl, sym, ap, subst}
use Rattle.sync_course.specs.Paths.{Path}

module _ {E P : Type 0} (step : P → E → P → Type 0) where
  pub path_one : (p q : P) (e : E) → step p e q → Path step p (e ∷ []) q
  path_one p q e s = (q, s, refl)

  pub path_then : (p q r : P) (es fs : List E) → Path step p es q → Path step q fs r → Path step p (es ++ fs) r
  path_then p q r [] fs first second = subst (λ x. Path step x fs r) first second
  path_then p q r (e ∷ es) fs first second = (first.0, first.1, path_then first.0 q r es fs first.2 second)

  pub path_push : (p q r : P) (es : List E) (e : E) → Path step p es q → step q e r → Path step p (es ++ e ∷ []) r
  path_push p q r es e first s = path_then p q r es (e ∷ []) first (path_one q r e s)

  -- the place between two parts of a path
  pub path_parts : (p r : P) (es fs : List E) → Path step p (es ++ fs) r → (q : P) × Path step p es q × Path step q fs r
  path_parts p r [] fs path = (p, refl, path)
  path_parts p r (e ∷ es) fs path =
      let rest = path_parts path.0 r es fs path.2 in
      (rest.0, (path.0, path.1, rest.1), rest.2)

-- each step of one machine is a step of another between the places that a function gives
module _ {E P Q : Type 0} (step : P → E → P → Type 0) (other : Q → E → Q → Type 0) (f : P → Q)
    (each : (p q : P) (e : E) → step p e q → other (f p) e (f q)) where
  pub path_maps : (p q : P) (es : List E) → Path step p es q → Path other (f p) es (f q)
  path_maps p q [] path = ap f path
  path_maps p q (e ∷ es) path = (f path.0, each p path.0 e path.1, path_maps path.0 q es path.2)

-- what every step keeps, the events since the beginning included, stands behind every path
module _ {E P : Type 0} (step : P → E → P → Type 0) (Keeps : List E → P → Type 0)
    (each : (before : List E) (p q : P) (e : E) → Keeps before p → step p e q → Keeps (before ++ e ∷ []) q) where
  pub path_keeps : (before es : List E) (p q : P) → Keeps before p → Path step p es q → Keeps (before ++ es) q
  path_keeps before [] p q k path =
      subst (λ l. Keeps l q) (sym (append-nil before)) (subst (λ x. Keeps before x) (sym path) k)
  path_keeps before (e ∷ es) p q k path =
      subst (λ l. Keeps l q) (append_assoc before (e ∷ []) es)
      (path_keeps (before ++ e ∷ []) es path.0 q (each before p path.0 e k path.1) path.2)
