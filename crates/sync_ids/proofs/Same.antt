-- The test whether the parts of two definitions are the same decides whether the definitions are equal.
use Rattle.std.proofs.Common.{◌≡◌, Bool, true, ◌&&◌, nat_eq, eqb-true, eq-eqb, refl, subst}
use Rattle.std.proofs.lemmas.Bool.{and_from, and_parts}
use Rattle.std.specs.Cmp.Lexicographic.{pointwise, bytes_decides}
use Rattle.sync_ids.specs.Values.{GroupValue}

abbrev pub same_parts : GroupValue → GroupValue → Bool
same_parts a b = pointwise nat_eq a.name b.name && (nat_eq a.major b.major && pointwise nat_eq a.descriptor b.descriptor)

pub same_told : (a b : GroupValue) → same_parts a b ≡ true → a ≡ b
same_told a b e =
    let tests = and_parts (pointwise nat_eq a.name b.name) (nat_eq a.major b.major && pointwise nat_eq a.descriptor b.descriptor) e in
    let more = and_parts (nat_eq a.major b.major) (pointwise nat_eq a.descriptor b.descriptor) tests.1 in
    let names : a.name ≡ b.name = (bytes_decides a.name b.name).0 tests.0 in
    let majors : a.major ≡ b.major = eqb-true a.major b.major more.0 in
    let descriptors : a.descriptor ≡ b.descriptor = (bytes_decides a.descriptor b.descriptor).0 more.1 in
    λ i. record { name = names i; major = majors i; descriptor = descriptors i }

same_itself : (a : GroupValue) → same_parts a a ≡ true
same_itself a =
    and_from (pointwise nat_eq a.name a.name) (nat_eq a.major a.major && pointwise nat_eq a.descriptor a.descriptor) ((bytes_decides a.name a.name).1 refl)
    (and_from (nat_eq a.major a.major) (pointwise nat_eq a.descriptor a.descriptor) (eq-eqb a.major a.major refl) ((bytes_decides a.descriptor a.descriptor).1 refl))

pub same_from : (a b : GroupValue) → a ≡ b → same_parts a b ≡ true
same_from a b e = subst (λ (x : GroupValue). same_parts a x ≡ true) e (same_itself a)
