use Rattle.std.proofs.Common.{◌≡◌, ◌⊎◌, List, [], ◌∷◌, ◌++◌, sym, ap, ◌∙◌, subst, arith, All, map, get_or}
use Rattle.state_machine.specs.declared.entry.Entry.{Entry}
use Rattle.state_machine.specs.Histories.{entry, own}
use Rattle.turn_lock.specs.Turns.{SeatState, own_entries}
use Rattle.adding_machine.specs.declared.machine.Addition.{Addition}
use Rattle.adding_machine.specs.Sums.{Adding, addition}
use Rattle.adding_machine.proofs.Orders.{zero_or_one, answers}
use Rattle.adding_machine.proofs.two_threads.add_and_close.Goals as goal

pub returns-clause-order : goal.returns-clause-order
returns-clause-order g c =
    let f = c.add_both-x.ensures in let zero = c.add_both-x.new.zero in let one = c.add_both-x.new.one in let history : List (Entry Addition) = c.close.result.history in
    let items : c.push_reserved-2.new.self.items ≡ zero ∷ one ∷ [] = c.push_reserved-2.ensures.items ∙ ap (λ l. l ++ one ∷ []) (c.push_reserved.ensures.items ∙ ap (λ l. l ++ zero ∷ []) c.requires.back.0) in
    let own_is = subst (λ (l : List (SeatState Adding Addition)). All (λ s. own s.number history ≡ own_entries s) l) items c.close.ensures.own in
    let zero_number : zero.number ≡ 0 = f.numbers.0 ∙ c.requires.zero.2 in let one_number : one.number ≡ 1 = f.numbers.1 ∙ c.requires.one.2 in
    let a : own 0 history ≡ entry 0 (addition 2 c.add_both-x.result.0) ∷ [] = ap (λ n. own n history) (sym zero_number) ∙ (own_is 0 zero (omega arith) ∙ (f.zero ∙ ap (λ n. entry n (addition 2 c.add_both-x.result.0) ∷ []) c.requires.zero.2)) in
    let b : own 1 history ≡ entry 1 (addition 3 c.add_both-x.result.1) ∷ [] = ap (λ n. own n history) (sym one_number) ∙ (own_is 1 one (omega arith) ∙ (f.one ∙ ap (λ n. entry n (addition 3 c.add_both-x.result.1) ∷ []) c.requires.one.2)) in
    let numbers : map (λ s. s.number) c.push_reserved-2.new.self.items ≡ 0 ∷ 1 ∷ [] = ap (λ (l : List (SeatState Adding Addition)). map (λ s. s.number) l) items ∙ (ap (λ n. n ∷ one.number ∷ []) zero_number ∙ ap (λ n. 0 ∷ n ∷ []) one_number) in
    let small : All (λ (e : Entry Addition). (e.by ≡ 0) ⊎ (e.by ≡ 1)) history = λ k d lt. zero_or_one (map (λ s. s.number) c.push_reserved-2.new.self.items) (get_or history k d).by numbers (c.close.ensures.entries k d lt) in
    (answers history c.add_both-x.result.0 c.add_both-x.result.1 c.close.result.sum a b small c.close.ensures.legal.leads).0

pub returns-clause-sum : goal.returns-clause-sum
returns-clause-sum g c =
    let f = c.add_both-x.ensures in let zero = c.add_both-x.new.zero in let one = c.add_both-x.new.one in let history : List (Entry Addition) = c.close.result.history in
    let items : c.push_reserved-2.new.self.items ≡ zero ∷ one ∷ [] = c.push_reserved-2.ensures.items ∙ ap (λ l. l ++ one ∷ []) (c.push_reserved.ensures.items ∙ ap (λ l. l ++ zero ∷ []) c.requires.back.0) in
    let own_is = subst (λ (l : List (SeatState Adding Addition)). All (λ s. own s.number history ≡ own_entries s) l) items c.close.ensures.own in
    let zero_number : zero.number ≡ 0 = f.numbers.0 ∙ c.requires.zero.2 in let one_number : one.number ≡ 1 = f.numbers.1 ∙ c.requires.one.2 in
    let a : own 0 history ≡ entry 0 (addition 2 c.add_both-x.result.0) ∷ [] = ap (λ n. own n history) (sym zero_number) ∙ (own_is 0 zero (omega arith) ∙ (f.zero ∙ ap (λ n. entry n (addition 2 c.add_both-x.result.0) ∷ []) c.requires.zero.2)) in
    let b : own 1 history ≡ entry 1 (addition 3 c.add_both-x.result.1) ∷ [] = ap (λ n. own n history) (sym one_number) ∙ (own_is 1 one (omega arith) ∙ (f.one ∙ ap (λ n. entry n (addition 3 c.add_both-x.result.1) ∷ []) c.requires.one.2)) in
    let numbers : map (λ s. s.number) c.push_reserved-2.new.self.items ≡ 0 ∷ 1 ∷ [] = ap (λ (l : List (SeatState Adding Addition)). map (λ s. s.number) l) items ∙ (ap (λ n. n ∷ one.number ∷ []) zero_number ∙ ap (λ n. 0 ∷ n ∷ []) one_number) in
    let small : All (λ (e : Entry Addition). (e.by ≡ 0) ⊎ (e.by ≡ 1)) history = λ k d lt. zero_or_one (map (λ s. s.number) c.push_reserved-2.new.self.items) (get_or history k d).by numbers (c.close.ensures.entries k d lt) in
    (answers history c.add_both-x.result.0 c.add_both-x.result.1 c.close.result.sum a b small c.close.ensures.legal.leads).1
