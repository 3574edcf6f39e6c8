-- What each pen has of the one before. Those that set a visual mark are instances of page/proofs/Bits.antt.
use mathlib.Core.Path.{◌≡◌, refl, ◌∙◌}
use mathlib.Core.Bool.{Bool, true, false}
use Prim.Native.Nat.{ℕ, ◌-◌, ◌^◌, ◌<◌, ◌≤◌}
use native.Mathlib.Omega.{arith}
use Rattle.std.specs.Prelude.{bit_and}
use Rattle.std.proofs.lemmas.Nat.{and-not, and_comm}
use Rattle.std.proofs.lemmas.Nat.Bits.{and_high}
use Rattle.page.specs.declared.Attribute.TheVariants.{Protected, Bold, Underlined, Blinking, Reversed, Concealed, Numeric, Alphabetic, Required}
use Rattle.page.specs.Marks.{with_attribute, has_bit, without_bits, without_bit, is_protected, is_modified, is_numeric, is_alphabetic, is_required}
use Rattle.page.proofs.Bits.{StayOutside, lower_bit, higher_bit, other_bit, stays_below, cleared_outside, cleared_inside, cleared_others, cleared_bit, set_others, set_bit}
use Rattle.state.specs.Pen.{pen_unprotected, pen_protected, pen_numeric, pen_alphabetic, pen_required, pen_plain, pen_bold, pen_underlined, pen_blinking, pen_reversed, pen_concealed}

-- The kind of a mark and whether it is modified; how large it is.
pub record HasKind (protected numeric alphabetic required modified : Bool) (pen : ℕ) : Type 0 where
  pub is_protected : is_protected pen ≡ protected
  pub is_numeric : is_numeric pen ≡ numeric
  pub is_alphabetic : is_alphabetic pen ≡ alphabetic
  pub is_required : is_required pen ≡ required
  pub is_modified : is_modified pen ≡ modified
  pub less : pen < 0x400

module _ (pen : ℕ) where
  -- A plain pen has no visual mark, and every other one as it was.
  pub plain_outside : StayOutside 2 7 pen (pen_plain pen)
  plain_outside = cleared_outside 2 7 pen (omega arith)

  pub clears_visual : (k : ℕ) → 2 ≤ k → k < 7 → has_bit k (pen_plain pen) ≡ false
  clears_visual = cleared_inside 2 7 pen (omega arith)

  -- DAQ sets one kind, or none, and leaves modified.
  module _ (small : pen < 0x400) where
    first : StayOutside 0 1 pen (without_bit 0 pen)
    first = cleared_others 0 pen

    second : StayOutside 7 10 (without_bit 0 pen) (pen_unprotected pen)
    second = cleared_outside 7 10 (without_bit 0 pen) (omega arith)

    pub unprotected_kind : HasKind false false false false (is_modified pen) (pen_unprotected pen)
    unprotected_kind = record {
      is_protected = lower_bit second 0 (omega arith) ∙ cleared_bit 0 pen;
      is_numeric = cleared_inside 7 10 (without_bit 0 pen) (omega arith) 7 (omega arith) (omega arith);
      is_alphabetic = cleared_inside 7 10 (without_bit 0 pen) (omega arith) 8 (omega arith) (omega arith);
      is_required = cleared_inside 7 10 (without_bit 0 pen) (omega arith) 9 (omega arith) (omega arith);
      is_modified = lower_bit second 1 (omega arith) ∙ higher_bit first 1 (omega arith);
      less = stays_below second 10 (omega arith) (stays_below first 10 (omega arith) small);
    }

    pub protected_kind : HasKind true false false false (is_modified pen) (pen_protected pen)
    protected_kind =
        let others = set_others 0 (pen_unprotected pen) in
        record {
          is_protected = set_bit 0 (pen_unprotected pen);
          is_numeric = other_bit others 7 (λ e. omega arith) ∙ unprotected_kind.is_numeric;
          is_alphabetic = other_bit others 8 (λ e. omega arith) ∙ unprotected_kind.is_alphabetic;
          is_required = other_bit others 9 (λ e. omega arith) ∙ unprotected_kind.is_required;
          is_modified = other_bit others 1 (λ e. omega arith) ∙ unprotected_kind.is_modified;
          less = stays_below others 10 (omega arith) unprotected_kind.less;
        }

    pub numeric_kind : HasKind false true false false (is_modified pen) (pen_numeric pen)
    numeric_kind =
        let others = set_others 7 (pen_unprotected pen) in
        record {
          is_protected = other_bit others 0 (λ e. omega arith) ∙ unprotected_kind.is_protected;
          is_numeric = set_bit 7 (pen_unprotected pen);
          is_alphabetic = other_bit others 8 (λ e. omega arith) ∙ unprotected_kind.is_alphabetic;
          is_required = other_bit others 9 (λ e. omega arith) ∙ unprotected_kind.is_required;
          is_modified = other_bit others 1 (λ e. omega arith) ∙ unprotected_kind.is_modified;
          less = stays_below others 10 (omega arith) unprotected_kind.less;
        }

    pub alphabetic_kind : HasKind false false true false (is_modified pen) (pen_alphabetic pen)
    alphabetic_kind =
        let others = set_others 8 (pen_unprotected pen) in
        record {
          is_protected = other_bit others 0 (λ e. omega arith) ∙ unprotected_kind.is_protected;
          is_numeric = other_bit others 7 (λ e. omega arith) ∙ unprotected_kind.is_numeric;
          is_alphabetic = set_bit 8 (pen_unprotected pen);
          is_required = other_bit others 9 (λ e. omega arith) ∙ unprotected_kind.is_required;
          is_modified = other_bit others 1 (λ e. omega arith) ∙ unprotected_kind.is_modified;
          less = stays_below others 10 (omega arith) unprotected_kind.less;
        }

    -- 20 adds required, and leaves the kind.
    pub required_kind : HasKind (is_protected pen) (is_numeric pen) (is_alphabetic pen) true (is_modified pen) (pen_required pen)
    required_kind =
        let others = set_others 9 pen in
        record {
          is_protected = other_bit others 0 (λ e. omega arith);
          is_numeric = other_bit others 7 (λ e. omega arith);
          is_alphabetic = other_bit others 8 (λ e. omega arith);
          is_required = set_bit 9 pen;
          is_modified = other_bit others 1 (λ e. omega arith);
          less = stays_below others 10 (omega arith) small;
        }

-- The pens that set one attribute: the code has one function for all of them, that of the page.
pub record ByAttribute (pen : ℕ) : Type 0 where
  pub bold : with_attribute Bold pen ≡ pen_bold pen
  pub underlined : with_attribute Underlined pen ≡ pen_underlined pen
  pub blinking : with_attribute Blinking pen ≡ pen_blinking pen
  pub reversed : with_attribute Reversed pen ≡ pen_reversed pen
  pub concealed : with_attribute Concealed pen ≡ pen_concealed pen
  pub required : with_attribute Required pen ≡ pen_required pen
  pub protected : with_attribute Protected (pen_unprotected pen) ≡ pen_protected pen
  pub numeric : with_attribute Numeric (pen_unprotected pen) ≡ pen_numeric pen
  pub alphabetic : with_attribute Alphabetic (pen_unprotected pen) ≡ pen_alphabetic pen

pub by_attribute : (pen : ℕ) → ByAttribute pen
by_attribute pen = record {
  bold = refl;
  underlined = refl;
  blinking = refl;
  reversed = refl;
  concealed = refl;
  required = refl;
  protected = refl;
  numeric = refl;
  alphabetic = refl;
}

-- Runs of bits cleared by masks, in a pen of 16 bits.
module _ (pen : ℕ) (fits : pen < 2 ^ 16) where
  pub plain_by_mask : bit_and pen (2 ^ 16 - 1 - 0x7C) ≡ pen_plain pen
  plain_by_mask =
      omega (arith, and-not 16 0x7C pen (omega arith) fits, and_comm pen (2 ^ 16 - 1 - 0x7C), and_comm pen 0x7C, and_high pen 5 2)

  pub kind_by_mask : bit_and pen (2 ^ 16 - 1 - 0x380) ≡ without_bits 7 10 pen
  kind_by_mask =
      omega (arith, and-not 16 0x380 pen (omega arith) fits, and_comm pen (2 ^ 16 - 1 - 0x380), and_comm pen 0x380, and_high pen 3 7)
