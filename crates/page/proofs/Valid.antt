-- What a valid mark is, told by its kinds and by its size.
use mathlib.Core.Path.{◌≡◌, refl, sym, ◌∙◌}
use mathlib.Core.Bool.{Bool, true, false, not}
use Prim.Native.Nat.{ℕ, ◌+◌, ◌*◌, ◌/◌, ◌%◌, ◌^◌, ◌<◌, ◌≤◌}
use native.Mathlib.Omega.{arith}
use borrow.Author.Tests.{lt-ltb, ltb-true, ltb-false, eqb-true, eqb-false, eq-eqb, ne_eqb}
use lib.Dec.{ltb}
use lib.Pow.{shr-shr}
use Rattle.words.specs.Choice.{◌and◌, ◌or◌}
use Rattle.words.proofs.Choosing.{both, both_hold, either_way, less_or_not, refuted, true_is_not_false}
use Rattle.page.specs.Marks.{without_bit, is_protected, is_numeric, is_alphabetic, is_required, valid_mark}

-- Which kinds may stand together: no two but required, with any but protected.
abbrev pub kinds_fit : Bool → Bool → Bool → Bool → Bool
kinds_fit protected numeric alphabetic required =
    not (numeric and alphabetic) and not (protected and (numeric or alphabetic or required))

pub protected_alone : (protected numeric alphabetic required : Bool) → protected ≡ true → kinds_fit protected numeric alphabetic required ≡ true → (numeric ≡ false) × (alphabetic ≡ false) × (required ≡ false)
unfolding ◌and◌ ◌or◌
protected_alone false n a r p fit = absurd (true_is_not_false (sym p))
protected_alone true true true r p fit = absurd (true_is_not_false (sym fit))
protected_alone true true false r p fit = absurd (true_is_not_false (sym fit))
protected_alone true false true r p fit = absurd (true_is_not_false (sym fit))
protected_alone true false false true p fit = absurd (true_is_not_false (sym fit))
protected_alone true false false false p fit = (refl, refl, refl)

pub numeric_alone : (protected numeric alphabetic required : Bool) → numeric ≡ true → kinds_fit protected numeric alphabetic required ≡ true → alphabetic ≡ false
unfolding ◌and◌ ◌or◌
numeric_alone protected false a r n fit = absurd (true_is_not_false (sym n))
numeric_alone protected true true r n fit = absurd (true_is_not_false (sym fit))
numeric_alone protected true false r n fit = refl

pub plain_fits : (required : Bool) → kinds_fit false false false required ≡ true
unfolding ◌and◌ ◌or◌
plain_fits required = refl

pub protected_fits : kinds_fit true false false false ≡ true
unfolding ◌and◌ ◌or◌
protected_fits = refl

pub numeric_fits : (required : Bool) → kinds_fit false true false required ≡ true
unfolding ◌and◌ ◌or◌
numeric_fits required = refl

pub alphabetic_fits : (required : Bool) → kinds_fit false false true required ≡ true
unfolding ◌and◌ ◌or◌
alphabetic_fits required = refl

-- An unprotected mark that fits, fits with required too.
pub required_fits : (protected numeric alphabetic required : Bool) → protected ≡ false → kinds_fit protected numeric alphabetic required ≡ true → kinds_fit protected numeric alphabetic true ≡ true
unfolding ◌and◌ ◌or◌
required_fits true n a r p fit = absurd (true_is_not_false p)
required_fits false true true r p fit = absurd (true_is_not_false (sym fit))
required_fits false true false r p fit = refl
required_fits false false a r p fit = refl

-- A mark is valid where it is below 400 hexadecimal and its kinds fit.
module _ (mark : ℕ) where
  pub valid_mark_lem : valid_mark mark ≡ true → (mark < 0x400) × (kinds_fit (is_protected mark) (is_numeric mark) (is_alphabetic mark) (is_required mark) ≡ true)
  unfolding valid_mark
  valid_mark_lem p = let fits = both p in (ltb-true mark 0x400 fits.0, fits.1)

  pub valid_from : {protected numeric alphabetic required : Bool} → mark < 0x400 → is_protected mark ≡ protected → is_numeric mark ≡ numeric → is_alphabetic mark ≡ alphabetic → is_required mark ≡ required → kinds_fit protected numeric alphabetic required ≡ true → valid_mark mark ≡ true
  unfolding valid_mark
  valid_from less p n a r fit = both_hold _ _ (lt-ltb mark 0x400 less) (rw (p, n, a, r) fit)

  -- The same by size: a protected mark is below 80; another one below 180 but for bit 9.
  no_kind : mark < 0x80 → (is_numeric mark ≡ false) × (is_alphabetic mark ≡ false) × (is_required mark ≡ false)
  no_kind less = (
    ne_eqb (mark / 2 ^ 7 % 2) 1 (omega (arith, less)),
    ne_eqb (mark / 2 ^ 8 % 2) 1 (omega (arith, less)),
    ne_eqb (mark / 2 ^ 9 % 2) 1 (omega (arith, less)),
  )

  pub protected_limit : is_protected mark ≡ true → valid_mark mark ≡ ltb mark 0x80
  protected_limit p =
      either_way (ltb mark 0x80)
      (λ t. let less = ltb-true mark 0x80 t in
      valid_from (omega (arith, less)) p (no_kind less).0 (no_kind less).1 (no_kind less).2 protected_fits ∙ sym t)
      (λ t. refuted (valid_mark mark) (λ v. too_high (ltb-false mark 0x80 t) v) ∙ sym t)
    where
      too_high : 0x80 ≤ mark → valid_mark mark ≡ true → ⊥
      too_high high v =
          let known = valid_mark_lem v in
          let alone = protected_alone _ (is_numeric mark) (is_alphabetic mark) (is_required mark) p known.1 in
          let not_required : mark / 2 ^ 9 ≡ 0 = omega (arith, known.0, eqb-false (mark / 2 ^ 9 % 2) 1 alone.2) in
          let no-alphabetic : mark / 2 ^ 8 ≡ 0 = omega (arith, not_required, eqb-false (mark / 2 ^ 8 % 2) 1 alone.1) in
          let no-numeric : mark / 2 ^ 7 ≡ 0 = omega (arith, no-alphabetic, eqb-false (mark / 2 ^ 7 % 2) 1 alone.0) in
          omega (arith, high, no-numeric)

  one_kind_fits : is_protected mark ≡ false → mark % 0x200 < 0x180 → mark < 0x400 → valid_mark mark ≡ true
  one_kind_fits p one-kind less =
      either_way (is_numeric mark)
      (λ n. valid_from less p n (ne_eqb (mark / 2 ^ 8 % 2) 1 (λ a. not_both_kinds (eqb-true (mark / 2 ^ 7 % 2) 1 n) a)) refl (numeric_fits _))
      (λ n.
      either_way (is_alphabetic mark)
      (λ a. valid_from less p n a refl (alphabetic_fits _))
      (λ a. valid_from less p n a refl (plain_fits _)))
    where
      not_both_kinds : mark / 2 ^ 7 % 2 ≡ 1 → mark / 2 ^ 8 % 2 ≡ 1 → ⊥
      not_both_kinds n a =
          let same : mark / 2 ^ 8 / 2 ≡ mark / 0x200 = shr-shr mark 8 1 in
          let high : 0x100 ≤ mark % 0x200 = omega (arith, a, same) in
          let kinds : mark / 2 ^ 7 ≡ 4 * (mark / 0x200) + 2 = omega (arith, high, one-kind) in
          omega (arith, kinds, n)

  two_kinds : 0x180 ≤ mark % 0x200 → valid_mark mark ≡ false
  two_kinds high =
      refuted (valid_mark mark)
      (λ v.
      let known = valid_mark_lem v in
      let numeric : is_numeric mark ≡ true = eq-eqb (mark / 2 ^ 7 % 2) 1 (omega (arith, high)) in
      let alone = numeric_alone (is_protected mark) _ (is_alphabetic mark) (is_required mark) numeric known.1 in
      omega (arith, high, eqb-false (mark / 2 ^ 8 % 2) 1 alone))

  pub unprotected_limit : is_protected mark ≡ false → valid_mark mark ≡ ltb (without_bit 9 mark) 0x180
  unprotected_limit p =
      either_way (ltb (without_bit 9 mark) 0x180)
      (λ t. let less = ltb-true (without_bit 9 mark) 0x180 t in one_kind_fits p (omega (arith, less)) (omega (arith, less)) ∙ sym t)
      (λ t. too_high (ltb-false (without_bit 9 mark) 0x180 t) ∙ sym t)
    where
      too_high : 0x180 ≤ without_bit 9 mark → valid_mark mark ≡ false
      too_high high =
          less_or_not mark 0x400
          (λ less. two_kinds (omega (arith, high, less)))
          (λ more. refuted (valid_mark mark) (λ v. omega (arith, (valid_mark_lem v).0, more)))

pub ruleset limits = (protected_limit, unprotected_limit)
