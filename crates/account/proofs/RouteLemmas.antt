-- The order in which items get their Routes, entry by entry.
use Rattle.std.proofs.Common.{◌≡◌, ◌≤◌, ◌+◌, ℕ, List, [], ◌∷◌, ◌++◌, length, drop, sym, ap, ◌∙◌, arith, subst}
use Rattle.std.proofs.Common.{length-append, zero-add, add-zero}
use Rattle.std.proofs.lemmas.List.{drop-drop, drop-append-le}
use Rattle.account.specs.declared.entry.Entry.{Entry}
use Rattle.account.specs.declared.entry.Entry.TheVariants.{Gather, Ended, Take, Route, Tick, Stop, Begin, Done}
use Rattle.account.specs.Items.{named_by, items, routes_by, routes, unrouted_items}
use Rattle.account.proofs.ItemLemmas.{items-push}
use Rattle.account.specs.Routes.{IsNextRoute, RoutesInOrder, RouteOnInOrder}

pub routes-push : (es : List Entry) (e : Entry) → routes (es ++ e ∷ []) ≡ routes es + routes_by e
unfolding routes
routes-push [] e = omega arith
routes-push (x ∷ es) e = omega (arith, routes-push es e)

pub known-push : (es : List Entry) (e : Entry) → length (items (es ++ e ∷ [])) ≡ length (items es) + length (named_by e)
known-push es e = ap length (items-push es e) ∙ length-append (items es) (named_by e)

-- what follows stays in order
pub order_after : (journal : List Entry) (e : Entry) (es : List Entry)
    → RoutesInOrder (routes journal + routes_by e) (length (items journal) + length (named_by e)) es
    → RouteOnInOrder (journal ++ e ∷ []) es
order_after journal e es h = rw (routes-push journal e, known-push journal e) h

one_routed : (routed known : ℕ) (e : Entry) → IsNextRoute routed known e → routed ≤ known
    → routed + routes_by e ≤ known + length (named_by e)
one_routed routed known (Gather input moment pieces refused passed filtered metrics group reports) h l =
    omega (arith, l)
one_routed routed known (Ended input) h l = omega (arith, l)
one_routed routed known (Take item) h l = omega (arith, l)
one_routed routed known (Route item whole verdict aggs outs reports) h l = omega (arith, h.1)
one_routed routed known (Tick moment made) h l = omega (arith, l)
one_routed routed known (Stop moment made) h l = omega (arith, l)
one_routed routed known (Begin output from to) h l = omega (arith, l)
one_routed routed known (Done output ok reports) h l = omega (arith, l)

few_routed : (routed known : ℕ) (es : List Entry) → RoutesInOrder routed known es → routed ≤ known
    → routed + routes es ≤ known + length (items es)
unfolding RoutesInOrder items routes
few_routed routed known [] h l = omega (arith, l)
few_routed routed known (e ∷ es) h l =
    omega (
      arith,
      length-append (named_by e) (items es),
      few_routed (routed + routes_by e)
          (known + length (named_by e)) es h.1 (one_routed routed known e h.0 l),
    )

-- no more items were routed than there are
few_routes : (es : List Entry) → RoutesInOrder 0 0 es → routes es ≤ length (items es)
few_routes es h = omega (arith, few_routed 0 0 es h (omega arith))

order-push : (routed known : ℕ) (es : List Entry) (e : Entry) → RoutesInOrder routed known es
    → IsNextRoute (routed + routes es) (known + length (items es)) e → RoutesInOrder routed known (es ++ e ∷ [])
unfolding RoutesInOrder items routes
order-push routed known [] e h m = (
  subst (λ (n : ℕ). IsNextRoute n known e) (omega arith)
      (subst (λ (n : ℕ). IsNextRoute (routed + 0) n e) (omega arith) m),
  tt,
)
order-push routed known (x ∷ es) e h m = (
  h.0,
  order-push (routed + routes_by x) (known + length (named_by x)) es e h.1
      (subst (λ (n : ℕ). IsNextRoute n (known + length (named_by x) + length (items es)) e) (omega arith)
      (subst (λ (n : ℕ). IsNextRoute (routed + (routes_by x + routes es)) n e)
      (omega (arith, length-append (named_by x) (items es))) m)),
)

-- one entry more comes in order
pub in_order-push : (es : List Entry) (e : Entry) → RoutesInOrder 0 0 es → IsNextRoute (routes es) (length (items es)) e
    → RoutesInOrder 0 0 (es ++ e ∷ [])
in_order-push es e h m = order-push 0 0 es e h (rw (zero-add (routes es), zero-add (length (items es))) m)

-- the items that aren't routed with one entry more
pub unrouted-push : (es : List Entry) (e : Entry) → RoutesInOrder 0 0 es
    → unrouted_items (es ++ e ∷ []) ≡ drop (routes_by e) (unrouted_items es ++ named_by e)
unrouted-push es e h =
    ap (drop (routes (es ++ e ∷ []))) (items-push es e) ∙ ap (λ (n : ℕ). drop n (items es ++ named_by e))
    (routes-push es e) ∙ sym (drop-drop (routes_by e) (routes es) (items es ++ named_by e))
    ∙ ap (drop (routes_by e)) (drop-append-le (routes es) (items es) (named_by e) (few_routes es h))

-- the first entry's Route comes in order, and so do those that follow it
pub next_of : (routed known : ℕ) (e : Entry) (es : List Entry) → RoutesInOrder routed known (e ∷ es)
    → IsNextRoute routed known e × RoutesInOrder (routed + routes_by e) (known + length (named_by e)) es
unfolding RoutesInOrder
next_of routed known e es h = h

pub alone : (routed known : ℕ) (e : Entry) → IsNextRoute routed known e → RoutesInOrder routed known (e ∷ [])
unfolding RoutesInOrder
alone routed known e h = (h, tt)

pub order_split : (routed known : ℕ) (front stored : List Entry) → RoutesInOrder routed known (front ++ stored)
    → RoutesInOrder (routed + routes front) (known + length (items front)) stored
unfolding RoutesInOrder routes items
order_split routed known [] stored h = subst (λ (n : ℕ). RoutesInOrder n (known + 0) stored) (sym (add-zero routed))
    (subst (λ (n : ℕ). RoutesInOrder routed n stored) (sym (add-zero known)) h)
order_split routed known (e ∷ front) stored h =
    let rest : RoutesInOrder (routed + routes_by e + routes front) (known + length (named_by e) + length (items front))
    stored = order_split (routed + routes_by e) (known + length (named_by e)) front stored h.1 in
    subst (λ (n : ℕ). RoutesInOrder (routed + (routes_by e + routes front)) n stored)
    (omega (arith, length-append (named_by e) (items front)))
    (subst (λ (n : ℕ). RoutesInOrder n (known + length (named_by e) + length (items front)) stored) (omega arith) rest)
