-- Tests that hold, and what holds of a choice by a test.
use mathlib.Core.Bool.{Bool, true, false, not, ◌&&◌, cond}
use mathlib.Core.Logic.{◌⊎◌, inl, inr}
use lib.Dec.{T}

pub and_intro : (a b : Bool) → T a → T b → T (a && b)
and_intro true b p q = q
and_intro false b p q = absurd p

pub and_parts : (a b : Bool) → T (a && b) → T a × T b
and_parts true b h = (tt, h)
and_parts false b h = absurd h

-- three tests
pub three_intro : (a b c : Bool) → T a → T b → T c → T (a && (b && c))
three_intro a b c p q r = and_intro a (b && c) p (and_intro b c q r)

pub three_parts : (a b c : Bool) → T (a && (b && c)) → T a × T b × T c
three_parts a b c h =
    let k = and_parts a (b && c) h in
    let j = and_parts b c k.1 in
    (k.0, j.0, j.1)

pub decided : (b : Bool) → T b ⊎ (T b → ⊥)
decided true = inl tt
decided false = inr (λ t. t)

-- what holds of a choice, by its test
pub cond_holds : {A : Type 0} (P : A → Type 0) (b : Bool) (u v : A) → (T b → P u) → (T (not b) → P v)
    → P (cond b u v)
cond_holds P true u v f g = f tt
cond_holds P false u v f g = g tt

pub cond_taken : {A : Type 0} (P : A → Type 0) (b : Bool) (u v : A) → T b → P (cond b u v) → P u
cond_taken P true u v t p = p
cond_taken P false u v t p = absurd t
