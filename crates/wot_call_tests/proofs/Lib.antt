mod NewKeys
