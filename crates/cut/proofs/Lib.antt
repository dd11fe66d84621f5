mod RoundedUp
