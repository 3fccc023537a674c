-- Banks over memory that the caller owns: a method's promise goes from the bank's own lifetime to the one that the trait
-- knows. A block with a lifetime that is put together by hand shows each of its methods so. Assumes nothing.
use Rattle.std.proofs.Common.{ℕ, List, [], ◌∷◌}
use seplogic.Ra.Ura.{Ura}
use base.Fml.{Lft}
use base.Logic.{SProp, emp, id⊢}
use types.Logic.{Logic}
use contract.BorrowLft.{◌⊑◌, ⊑_refl, ⊑_trans}
use contract.Lifetimes.{Lfts, Outlives}
use contract.Running.{Running}
use denote.Signature.{Signature, Slot}
use denote.Triple.Carry.{insides}
use denote.Triple.Entry.{Args, Res}
use denote.Triple.Impl.{implements, insides_in, moved}
use denote.Triple.Spec.{Spec, Meets, triple_of}
use denote.Triple.Statement.{Triple}
use denote.Triple.Table.{run_framed, widened}
use denote.Param.{layouts}
use denote.Ref.{NamedLft}
use mir.Syntax.{Callee, Dict, erased, method, named}
use prog.Model.{Model}
use prog.Routine.{Routine, ◌≼⁺◌}

-- the method of a block by its number
abbrev pub method_at : Dict → ℕ → Callee
method_at block i = method block i (layouts [] tt)

-- a lifetime that is not named in the code
abbrev pub unnamed : Lft → NamedLft
unnamed κ = record { mir = erased; lft = κ }

-- the bank's own lifetime in the place of what the trait knows of it
abbrev pub own : Lft → Lfts 2 → Lfts 2
own κ τs = (τs.0, (κ, tt))

-- the bank outlives the loan of it
abbrev pub lent : List (Outlives 2)
lent = record { long = 1; long_ok = tt; short = named 0; short_ok = tt } ∷ []

-- a method that is lent the bank
abbrev pub method_of : List (Slot 2) → Slot 2 → Signature
method_of params result = record { lifetimes = 2; outlives = lent; params = params; result = result }

module _ {M : Type 1} {𝓤 : Ura M} (𝓛 : Logic 𝓤) (𝓜 : Model 𝓤 𝓛.H) (𝓡 : Running 𝓤 𝓛.H 𝓜) (κ ℓ : Lft) (lives : ℓ ⊑ κ) (params : List (Slot 2)) (result : Slot 2)
    (E : (κs : Lfts 2) → Args (method_of params result) κs → Res (method_of params result) κs → SProp 𝓤) where
  open 𝓛 use {H}

  abbrev told : Spec 𝓤 (method_of params result)
  told κs a = record { ghost = Unit {0}; requires = λ g. emp 𝓤; ensures = λ g. E κs a }

  -- What the method promises at its own lifetime it promises at the trait's.
  pub borrowed : (r r' : Routine) → r ≼⁺ r' → Meets 𝓛 (method_of params result) (𝓡.run r) told → Triple 𝓤 (𝓡.run r') (moved 𝓛 (method_of params result) 2 lent (own κ) (λ τs a. record { ghost = Unit {0}; requires = λ g. insides 𝓤 1 (τs.1.0, tt) (ℓ, tt) (emp 𝓤); ensures = λ g. E (own κ τs) a }))
  borrowed r r' above met =
      implements 𝓛 (method_of params result) 2 lent (own κ) (𝓡.run r') (run_framed 𝓤 H 𝓜 𝓡 r') told
      (λ τs a. record { ghost = Unit {0}; requires = λ g. insides 𝓤 1 (τs.1.0, tt) (ℓ, tt) (emp 𝓤); ensures = λ g. E (own κ τs) a }) 1
      (λ τs. (τs.1.0, tt)) (λ τs. (ℓ, tt)) ((0, tt), ((1, tt), tt)) (λ τs a g. emp 𝓤)
      (λ τs a g. id⊢ 𝓤 (insides 𝓤 1 (τs.1.0, tt) (ℓ, tt) (emp 𝓤)))
      (λ τs h.
      let long = ⊑_trans τs.1.0 ℓ κ h.1.0 lives in
      ((⊑_refl τs.0, (long, tt)), (⊑_trans τs.0 τs.1.0 κ h.0.0 long, tt)))
      (λ τs a g. tt)
      (λ τs h a g. insides_in 𝓤 0 tt tt (emp 𝓤) tt)
      (λ τs a g x. id⊢ 𝓤 (E (own κ τs) a x))
      (widened 𝓤 H (triple_of 𝓛 (method_of params result) told) 𝓜 𝓡 𝓡.env r r' above met)
