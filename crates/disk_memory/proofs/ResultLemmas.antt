-- A fact for one variant of a result leads to another.
use Rattle.std.proofs.Common.{Result, Ok, Err, OnOk, OnErr, IfOk}

pub on_ok : {T E P Q : Type 0} → (r : Result T E) → (P → Q) → OnOk r P → OnOk r Q
on_ok (Ok v) leads p = leads p
on_ok (Err e) leads p = p

pub on_err : {T E P Q : Type 0} → (r : Result T E) → (P → Q) → OnErr r P → OnErr r Q
on_err (Ok v) leads p = p
on_err (Err e) leads p = leads p

pub always_on_err : {T E P : Type 0} → (r : Result T E) → P → OnErr r P
always_on_err (Ok v) p = tt
always_on_err (Err e) p = p

pub if_ok : {T E : Type 0} {P Q : T → Type 0} → (r : Result T E) → ((v : T) → P v → Q v) → IfOk r P → IfOk r Q
if_ok (Ok v) leads p = leads v p
if_ok (Err e) leads p = p

pub if_ok_both : {T E : Type 0} {P Q R : T → Type 0} → (r : Result T E) → ((v : T) → P v → Q v → R v) → IfOk r P →
    IfOk r Q → IfOk r R
if_ok_both (Ok v) leads p q = leads v p q
if_ok_both (Err e) leads p q = p
